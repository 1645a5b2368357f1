-- The runs of a code fit the list that holds them. Assumes nothing.
use Rattle.std.proofs.Common.{◌≡◌, ℕ, ◌+◌, ◌<◌, ◌≤◌, Bool, T, leb, List, [], length, refl, ap, arith, leb→le, ltb-false, le-ltb, lt-ltb}
use mathlib.Core.List.{flat_map}
use Rattle.maths.specs.Tests.{below}
use Rattle.maths.proofs.Tests.{below_at}
use native.Mathlib.Decide.{dec_lt}
use Rattle.tables.specs.Tables.{prototypes, thetas, phis}
use Rattle.std.specs.Prelude.{Ok, Err}
use Rattle.codes.specs.declared.CodeParams.{CodeParams}
use Rattle.codes.specs.declared.refusal.Refusal.{Refusal}
use Rattle.codes.specs.Codes.{codes, Known, rows, tables, params_at, made, matrix_of, prototype_of, phi_of}
use Rattle.codes.specs.Blocks.{block_of, cell_blocks, row_blocks, last_rows, blocks}
use Rattle.codes.specs.Edges.{blocks_of}
use Rattle.runs.specs.Runs.{turned_runs, quarter, quarters, block_runs, runs, room}
use Rattle.runs.specs.Sound.{RunsFit}
use Rattle.codes.proofs.Codes.{sized, block_small, asked_unknown, asked_known}

pub runs_known : (code : ℕ) → Known code → runs code ≡ flat_map (block_runs (matrix_of code)) (blocks (prototype_of code))
unfolding runs blocks_of
runs_known code h = rw (lt-ltb code codes h)

pub runs_unknown : (code : ℕ) → codes ≤ code → runs code ≡ []
unfolding runs blocks_of flat_map
runs_unknown code h = rw (le-ltb code codes h)

few_test : ℕ → Bool
few_test code = leb (length (flat_map (block_runs (matrix_of code)) (blocks (prototype_of code))) + 8) room

tested : T (below codes few_test)
unfolding few_test rows tables prototypes thetas phis block_of cell_blocks row_blocks last_rows flat_map block_runs turned_runs quarters quarter
tested = tt

pub fills : (code : ℕ) → Known code → RunsFit (matrix_of code)
unfolding few_test
fills code h =
    record {
      sized = sized code h;
      small = λ l r c. block_small code l r c _ refl;
      few = leb→le _ room (below_at codes few_test tested code h);
    }

module _ (code : ℕ) where
  pub runs_none : {why : Refusal} → Err why ≡ params_at code → [] ≡ runs code
  runs_none e = rw (runs_unknown code (ltb-false code codes (asked_unknown code e).0))

  module _ {row : CodeParams} (e : Ok row ≡ params_at code) (phi : List (List ℕ)) (H : List (List (List ℕ))) (ef : phi ≡ phi_of code) (eh : H ≡ prototype_of code) where
    pub runs_fitting : RunsFit (made row.submatrix_size thetas phi H)
    runs_fitting = let k = asked_known code e in rw (ef, eh, k.1) (fills code k.0)

    pub runs_filled : flat_map (block_runs (made row.submatrix_size thetas phi H)) (blocks H) ≡ runs code
    runs_filled = let k = asked_known code e in rw (ef, eh, k.1, runs_known code k.0)

pub runs_few : (code : ℕ) → length (runs code) ≤ room
runs_few code = go (dec_lt code codes)
  where
    go : Dec (code < codes) → length (runs code) ≤ room
    go (yes h) = omega (arith, ap length (runs_known code h), (fills code h).few)
    go (no h) = rw (runs_unknown code (omega arith)) (omega arith)
