use mathlib.Core.Path.{◌≡◌, sym, ap, ◌∙◌}
use mathlib.Core.List.{List, []}
use Prim.Native.Nat.{ℕ, ◌%◌, ◌<◌, ◌≤◌}
use borrow.Author.Tests.{lt-ltb, le-ltb}
use Rattle.codes.specs.declared.parity_iter.Block.{Block}
use Rattle.codes.specs.declared.parity_iter.ParityIter.{ParityIter}
use Rattle.codes.specs.declared.CodeParams.{CodeParams}
use Rattle.codes.specs.declared.parity_iter.Block.TheVariants.{Permutation}
use Rattle.tables.specs.Tables.{thetas}
use Rattle.codes.specs.Codes.{Known, made, row_of, prototype_of, phi_of, max_block}
use Rattle.codes.specs.Blocks.{byte_at, block_of, block_at}
use Rattle.codes.specs.Edges.{permutation_column, column_of}
use Rattle.std.specs.Prelude.{Some, None}
use Rattle.codes.specs.Walk.{matrix, place_of, solid, Inside, column_at}
use Rattle.maths.specs.Tests.{pick}
use Rattle.codes.proofs.Codes.{sized, block_small, asked_known, asked_unknown}
use Rattle.codes.specs.Sound.{Small}
use Rattle.codes.proofs.Walk.{column_in}
use Rattle.codes.proofs.parity_iter.ParityIter.column.Goals.{
  then-self-ge4-via-then-self-ge4,
  then-self-ge4-via-else-self-ge4+then-self-ge11,
  then-self-ge4-via-else-self-ge4+else-self-ge11+then-self-ge3,
  then-self-ge4-via-else-self-ge4+else-self-ge11+else-self-ge3+then-self-m,
}
use Rattle.codes.proofs.parity_iter.ParityIter.column.Goals as goal

record At (w : ParityIter) (m : ℕ) (k : Block) : Type 0 where
  inside : Inside w
  size : m ≡ (matrix w).size
  block : k ≡ block_at (matrix w).prototype (place_of w)

-- from the tests that the walk passed, and what was asked of its code
at : {w : ParityIter} {r : CodeParams} {H : List (List (List ℕ))} {k : Block} → Known w.code × (r ≡ row_of w.code)
    → w.row < 4 → w.col < 11 → w.layer < 3 → w.i < r.submatrix_size → H ≡ prototype_of w.code → k ≡ block_of (byte_at H w.layer w.row w.col)
    → At w r.submatrix_size k
at {w} asked row col layer i H k =
    record {
      inside = record { code_low = asked.0; row_low = row; col_low = col; layer_low = layer; i_low = rw asked.1 at i };
      size = ap (λ (q : CodeParams). q.submatrix_size) asked.1;
      block = k ∙ ap (λ (h : List (List (List ℕ))). block_of (byte_at h w.layer w.row w.col)) H;
    }

-- what the block that was found says
module _ {w : ParityIter} {m : ℕ} {k : Block} (a : At w m k) where
  high : m ≤ max_block
  high = rw a.size (sized w.code a.inside.code_low).high

  low : w.i < m
  low = rw a.size a.inside.i_low

  fourth : m % 4 ≡ 0
  fourth = rw a.size (sized w.code a.inside.code_low).four

  module _ (b : Block) (e : k ≡ b) where
    small : Small b
    small = block_small w.code w.layer w.row w.col b (sym e ∙ a.block)

    column_at_block : column_at w ≡ pick (solid b) (Some (m, column_of (matrix w) b w.i)) None
    column_at_block = rw a.size (column_in w b a.inside (sym e ∙ a.block))

  permuted : (v : ℕ) {phi : List (List ℕ)} → phi ≡ phi_of w.code
      → permutation_column (made m thetas phi []) v w.i ≡ column_of (matrix w) (Permutation v) w.i
  permuted v e = rw (a.size, e)

pub returns-in_default : goal.returns-in_default
unfolding column_at
returns-in_default c = simp (asked_unknown _ c.in_default.ensures.found).0

pub returns-then-self-ge4 : goal.returns-then-self-ge4
unfolding column_at
returns-then-self-ge4 c =
    let k = lt-ltb _ _ (asked_known _ c.in-Ok.ensures.found).0 in
    let e = (asked_known _ c.in-Ok.ensures.found).1 in
    elim c.then-self-ge4.branch [
      | then-self-ge4-via-then-self-ge4 w ↦ simp (k, le-ltb _ _ w.if-self-ge4.true)
      | then-self-ge4-via-else-self-ge4+then-self-ge11 w ↦ simp (k, lt-ltb _ _ w.if-self-ge4.false, le-ltb _ _ w.if-self-ge11.true)
      | then-self-ge4-via-else-self-ge4+else-self-ge11+then-self-ge3 w ↦
          simp (k, lt-ltb _ _ w.if-self-ge4.false, lt-ltb _ _ w.if-self-ge11.false, le-ltb _ _ w.if-self-ge3.true)
      | then-self-ge4-via-else-self-ge4+else-self-ge11+else-self-ge3+then-self-m w ↦
          simp (
            k,
            lt-ltb _ _ w.if-self-ge4.false,
            lt-ltb _ _ w.if-self-ge11.false,
            lt-ltb _ _ w.if-self-ge3.false,
            le-ltb _ _ (rw e at w.if-self-m.true),
          )
    ]

pub identity_column-requires : goal.identity_column-requires
identity_column-requires c = let a = at (asked_known _ c.in-Ok.ensures.found) c.if-self-ge4.false c.if-self-ge11.false c.if-self-ge3.false c.if-self-m.false c.prototype_of-h.ensures c.from.ensures in (high a, (small a _ c.in-Identity.is, low a))

pub permutation_column-requires : goal.permutation_column-requires
permutation_column-requires c = let a = at (asked_known _ c.in-Ok.ensures.found) c.if-self-ge4.false c.if-self-ge11.false c.if-self-ge3.false c.if-self-m.false c.prototype_of-h.ensures c.from.ensures in (high a, (fourth a, (small a _ c.in-Permutation.is, low a)))

pub returns-in-Ends : goal.returns-in-Ends
returns-in-Ends c = rw (column_at_block (at (asked_known _ c.in-Ok.ensures.found) c.if-self-ge4.false c.if-self-ge11.false c.if-self-ge3.false c.if-self-m.false c.prototype_of-h.ensures c.from.ensures) _ c.in-Ends.is)

pub returns-in-Empty : goal.returns-in-Empty
returns-in-Empty c = rw (column_at_block (at (asked_known _ c.in-Ok.ensures.found) c.if-self-ge4.false c.if-self-ge11.false c.if-self-ge3.false c.if-self-m.false c.prototype_of-h.ensures c.from.ensures) _ c.in-Empty.is)

pub returns-in-Identity : goal.returns-in-Identity
returns-in-Identity c = let a = at (asked_known _ c.in-Ok.ensures.found) c.if-self-ge4.false c.if-self-ge11.false c.if-self-ge3.false c.if-self-m.false c.prototype_of-h.ensures c.from.ensures in rw (column_at_block a _ c.in-Identity.is, c.identity_column.ensures, ← a.size)

pub returns-in-Permutation : goal.returns-in-Permutation
unfolding thetas
returns-in-Permutation c =
    let a = at (asked_known _ c.in-Ok.ensures.found) c.if-self-ge4.false c.if-self-ge11.false c.if-self-ge3.false c.if-self-m.false c.prototype_of-h.ensures c.from.ensures in
    rw (column_at_block a _ c.in-Permutation.is, c.permutation_column.ensures ∙ permuted a c.in-Permutation.v c.phi_of-phi.ensures)
