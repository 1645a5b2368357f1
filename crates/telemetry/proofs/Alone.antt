-- The TM codes: every punctured bit has one check with no other punctured edge. Assumes nothing.
use mathlib.Core.Bool.{Bool}
use mathlib.Core.List.{[], ◌∷◌, flat_map}
use mathlib.Core.Path.{◌≡◌, subst, subst₂}
use Prim.Native.Nat.{ℕ, ◌+◌, ◌-◌, ◌*◌, ◌/◌, ◌%◌, ◌≤◌, ◌<◌}
use native.Mathlib.Nat.{add-mul, mod-lt, div-add-mod', div-lt_iff_lt-mul, le-div_iff_mul-le}
use native.Mathlib.Omega.{arith}
use lib.Dec.{T}
use Rattle.maths.specs.Tests.{pick, below}
use Rattle.maths.specs.Lists.{span}
use Rattle.maths.specs.Sums.{sum_l}
use Rattle.tables.specs.Tables.{prototypes, thetas, phis}
use Rattle.codes.specs.Codes.{tc_codes, TM, rows, row_of, bits_in, tables, circulant_of}
use Rattle.codes.specs.Blocks.{block_of, cell_blocks, row_blocks, last_rows}
use Rattle.codes.specs.Edges.{blocks_of, edges}
use Rattle.codes.specs.Equations.{bits_of, par}
use Rattle.codes.proofs.Codes.{tm_codes, tm_at}
use Rattle.matrices.specs.Circulants.{edges_of, circs, circs_at, block_circs}
use Rattle.matrices.proofs.Sizes.{bit_blocks, sizes}
use Rattle.matrices.proofs.Circulants.{edges_circs, of_edges}
use Rattle.bit_flip.specs.Erasures.{from_on}
use Rattle.bit_flip.specs.Outcome.{punctured}
use Rattle.telemetry.specs.Completion.{alone_of, third_row, lone}
use Rattle.telemetry.proofs.Sizes.{sent_blocks, punctured_blocks, third_block, cut}
use Rattle.telemetry.proofs.Punctured.{alone_test, alone_block, lone_block}

-- ---- the computed test
abbrev all_alone : ℕ → Bool
all_alone code = let ks = circs code in alone_test (sent_blocks code) (bit_blocks code) (punctured_blocks code) (third_block code) ks

alone_holds : T (below tm_codes (λ c. all_alone (tc_codes + c)))
unfolding rows tables prototypes thetas phis circs flat_map block_circs circs_at span blocks_of last_rows row_blocks cell_blocks block_of
alone_holds = tt

pub all_alone_lem : (code : ℕ) → TM code → T (alone_test (sent_blocks code) (bit_blocks code) (punctured_blocks code) (third_block code) (circs code))
all_alone_lem = tm_at all_alone alone_holds

-- ---- a punctured bit, by block and offset
module _ (code : ℕ) (tm : TM code) (v : ℕ) (h : (row_of code).n ≤ v) (h' : v < bits_in code) where
  abbrev b : ℕ
  b = circulant_of code

  abbrev from : ℕ
  from = v / b - sent_blocks code

  pos : 0 < b
  pos = (sizes code tm.1).some

  place : (from < punctured_blocks code) × ((sent_blocks code + from) * b + v % b ≡ v) × ((third_block code + from) * b + v % b ≡ third_row code + (v - (row_of code).n))
  place =
      let z = sizes code tm.1 in
      let c = cut code tm.1 in
      let l : sent_blocks code ≤ v / b = (le-div_iff_mul-le pos).1 (rw c.sent h) in
      let u : v / b < bit_blocks code = (div-lt_iff_lt-mul pos).1 (rw z.bit_blocks_lem h') in
      let e : sent_blocks code + from ≡ v / b = omega arith in
      let y : (sent_blocks code + from) * b + v % b ≡ v = rw e (div-add-mod' v b) in (
        omega (arith, c.bits),
        y,
        omega (arith, c.sent, c.third, add-mul (sent_blocks code) from b, add-mul (third_block code) from b),
      )

  -- it has exactly one check with no other punctured edge, and one edge to it
  pub alone_one : alone_of code v ≡ lone code v ∷ []
  alone_one =
      let (low, bit, check) = place in
      let a = alone_block b (sent_blocks code) (bit_blocks code) pos (punctured_blocks code) (third_block code) (circs code) (all_alone_lem code tm) from (v % b) low (mod-lt v pos) in
      rw ((cut code tm.1).sent, (sizes code tm.1).bit_blocks_lem, bit, check, ← edges_circs code tm.1) at a

  -- of the punctured bits that check has this one alone
  pub lone_sum : (w : ℕ → ℕ) → sum_l (bits_of (edges code) (lone code v)) (λ u. pick (punctured code u) (w u) 0) ≡ w v
  lone_sum w =
      let (low, bit, check) = place in
      let a = lone_block b (sent_blocks code) (bit_blocks code) pos (punctured_blocks code) (third_block code) (circs code) (all_alone_lem code tm) from (v % b) low (mod-lt v pos) w in
      of_edges code tm.1 (λ es m n k. par es (λ u. pick (from_on (row_of code).n n u) (w u) 0) (lone code v) ≡ w v)
      (subst (λ (x : ℕ). par (edges_of b (circs code)) (λ u. pick (from_on x (bit_blocks code * b) u) (w u) 0) (lone code v) ≡ w v) (cut code tm.1).sent
      (subst₂ (λ (x y : ℕ). par (edges_of b (circs code)) (λ u. pick (from_on (sent_blocks code * b) (bit_blocks code * b) u) (w u) 0) x ≡ w y) check bit a))
