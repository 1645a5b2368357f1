-- A step of a walk whose numbers are within bounds. Assumes nothing.
use mathlib.Core.Path.{◌≡◌, refl, sym, ap, subst}
use mathlib.Core.Bool.{Bool, true, false}
use Rattle.std.proofs.Common.{rules}
use native.Mathlib.Omega.{arith}
use lib.Dec.{T, ltb, ltb→lt}
use Rattle.maths.proofs.Tests.{both_left, both_right}
use Rattle.codes.proofs.Codes.{sized}
use Rattle.codes.proofs.Columns.{column_inside}
use Prim.Native.Nat.{ℕ, ◌*◌, ◌≤◌, ◌<◌}
use native.Mathlib.Nat.{mul-le-mul, le_of_lt}
use borrow.Author.Tests.{lt-ltb}
use Rattle.maths.specs.Tests.{pick}
use Rattle.codes.specs.Codes.{codes, known, max_block}
use Rattle.codes.specs.declared.parity_iter.Block.{Block}
use Rattle.codes.specs.declared.parity_iter.ParityIter.{ParityIter}
use Rattle.std.specs.Prelude.{Option, Some, None}
use Rattle.codes.specs.Blocks.{block_at}
use Rattle.codes.specs.Edges.{column_of}
use Rattle.codes.specs.Walk.{matrix, place_of, solid, stands, Inside, edge_in, column_at, step_of, moved, next_of}

pub product_low : (r m : ℕ) → r < 11 → m ≤ max_block → r * m ≤ 11 * max_block
product_low r m h k = mul-le-mul (le_of_lt h) k

pub stands_at : (w : ParityIter) → Inside w → stands w ≡ solid (block_at (matrix w).prototype (place_of w))
stands_at w h =
    simp (
      lt-ltb _ _ h.code_low,
      lt-ltb _ _ h.row_low,
      lt-ltb _ _ h.col_low,
      lt-ltb _ _ h.layer_low,
      lt-ltb _ _ h.i_low,
    )

-- a step inside the block b
pub column_in : (w : ParityIter) (b : Block) → Inside w → b ≡ block_at (matrix w).prototype (place_of w)
    → column_at w ≡ pick (solid b) (Some ((matrix w).size, column_of (matrix w) b w.i)) None
unfolding column_at
column_in w b h e = rw (stands_at w h, ← e)

-- where a walk stands at an edge, and where it is finished
pub record Standing (w : ParityIter) (m x : ℕ) : Type 0 where
  pub inside : Inside w
  pub size : m ≡ (matrix w).size
  pub low : x < max_block
  pub steps : step_of w ≡ Some (edge_in w x)
  pub moves : moved w ≡ next_of w

pub inside_of : (w : ParityIter) → T (stands w) → Inside w
inside_of w t =
    let a = both_right (known w.code) _ t in
    let b = both_right (ltb w.row 4) _ a in
    let c = both_right (ltb w.col 11) _ b in
    let d = both_right (ltb w.layer 3) _ c in
    record {
      code_low = ltb→lt w.code codes (both_left (known w.code) _ t);
      row_low = ltb→lt w.row 4 (both_left (ltb w.row 4) _ a);
      col_low = ltb→lt w.col 11 (both_left (ltb w.col 11) _ b);
      layer_low = ltb→lt w.layer 3 (both_left (ltb w.layer 3) _ c);
      i_low = ltb→lt w.i _ (both_left (ltb w.i _) _ d);
    }

standing_by : (w : ParityIter) (m x : ℕ) (b : Bool) → stands w ≡ b
    → ◌≡◌ {A = Option (ℕ × ℕ)} (Some (m, x)) (pick b (Some ((matrix w).size, column_of (matrix w) (block_at (matrix w).prototype (place_of w)) w.i)) None) → Standing w m x
unfolding step_of moved
standing_by w m x false k e = search (rules, e)
standing_by w m x true k e =
    let i = inside_of w (subst T (sym k) tt) in
    let s = sized w.code i.code_low in
    let p : ◌≡◌ {A = ℕ × ℕ} (m, x) ((matrix w).size, column_of (matrix w) (block_at (matrix w).prototype (place_of w)) w.i) = search (rules, e) in
    let f = ap (λ (q : ℕ × ℕ). q.1) p in
    record {
      inside = i;
      size = ap (λ (q : ℕ × ℕ). q.0) p;
      low = omega (arith, f, column_inside (matrix w) w.i s.four i.i_low (block_at (matrix w).prototype (place_of w)), s.high);
      steps = rw (k, f);
      moves = rw k;
    }

pub standing : (w : ParityIter) {m x : ℕ} → Some (m, x) ≡ column_at w → Standing w m x
unfolding column_at
standing w e = standing_by w _ _ (stands w) refl e

finished_by : (w : ParityIter) (b : Bool) → stands w ≡ b
    → ◌≡◌ {A = Option (ℕ × ℕ)} None (pick b (Some ((matrix w).size, column_of (matrix w) (block_at (matrix w).prototype (place_of w)) w.i)) None) → (step_of w ≡ None) × (moved w ≡ w)
unfolding step_of moved
finished_by w true k e = search (rules, e)
finished_by w false k e = (rw k, rw k)

pub finished : (w : ParityIter) → None ≡ column_at w → (step_of w ≡ None) × (moved w ≡ w)
unfolding column_at
finished w e = finished_by w (stands w) refl e
