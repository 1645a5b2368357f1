-- What a walk has left: a new walk has all edges of its code, and a step takes the first one off. Assumes nothing.
--     begin     remaining (new_of code) ≡ edges code
--     unroll    remaining w ≡ after (step_of w) (moved w)
use mathlib.Core.Bool.{Bool, true, false}
use mathlib.Core.Path.{◌≡◌, refl, sym, ap, ◌∙◌, subst}
use mathlib.Core.List.{List, [], ◌∷◌, ◌++◌, flat_map, append_assoc}
use Prim.Native.Nat.{ℕ, zero, suc, ◌+◌, ◌-◌, ◌≤◌, ◌<◌}
use native.Mathlib.Nat.{sub-zero}
use native.Mathlib.Numerals.{add-one}
use native.Mathlib.Omega.{arith}
use lib.Dec.{T, ltb}
use borrow.Author.Tests.{lt-ltb, ltb-true, ltb-false}
use Rattle.maths.specs.Tests.{pick}
use Rattle.maths.specs.Lists.{span}
use Rattle.maths.proofs.Lists.{span_first, span_none}
use Rattle.codes.specs.declared.parity_iter.Place.{Place}
use Rattle.codes.specs.declared.parity_iter.ParityIter.{ParityIter}
use Rattle.std.specs.Prelude.{Option, Some}
use Rattle.codes.specs.declared.parity_iter.Block.{Block}
use Rattle.codes.specs.declared.parity_iter.Block.TheVariants.{Ends, Empty, Identity, Permutation}
use Rattle.codes.specs.declared.parity_iter.Check.{Check}
use Rattle.codes.specs.declared.parity_iter.Bit.{Bit}
use Rattle.codes.specs.Codes.{Known, known, matrix_of, prototype_of, codes}
use Rattle.codes.specs.Blocks.{
  byte_at,
  block_of,
  place,
  layered,
  cell_blocks,
  row_blocks,
  last_rows,
  blocks,
  cells_from,
  blocks_from,
  block_at,
  head_of,
}
use Rattle.codes.specs.Edges.{Edge, edge_at, block_edges, blocks_of, edges}
use Rattle.codes.specs.Walk.{matrix, place_of, later, solid, stands, Inside, remaining, start_at, new_of, next_of, step_of, moved, after, Steps}
use Rattle.codes.proofs.Codes.{sized}
use Rattle.codes.proofs.Walk.{stands_at, inside_of}

-- a place of the prototype whose block has edges
pub record Lies (H : List (List (List ℕ))) (p : Place) : Type 0 where
  pub row_low : p.row < 4
  pub col_low : p.col < 11
  pub layer_low : p.layer < 3
  pub full : solid (block_at H p) ≡ true

module _ (H : List (List (List ℕ))) where
  -- a list of blocks that is empty, or whose first has edges and whose tail is the blocks after that one
  pub data Headed (ps : List Place) : Type 0 where
    none : ps ≡ [] → Headed ps
    some : (p : Place) → Lies H p → ps ≡ p ∷ blocks_from H p.row p.col (p.layer + 1) → Headed ps

  module _ (r c : ℕ) (rl : r < 4) (cl : c < 11) (rest : Headed (cells_from H r (c + 1))) where
    headed_at : (k : ℕ) → suc k ≤ 3 → solid (block_of (byte_at H (2 - k) r c)) ≡ true
        → Headed (place r c (2 - k) ∷ (cell_blocks H r c k ++ cells_from H r (c + 1)))
    unfolding blocks_from
    headed_at k h f =
        let e : 3 - (2 - k + 1) ≡ k = omega arith in
        some (place r c (2 - k)) (record { row_low = rl; col_low = cl; layer_low = omega arith; full = f }) (rw e)

    headed_layer : (k : ℕ) → suc k ≤ 3 → Headed (cell_blocks H r c k ++ cells_from H r (c + 1))
        → (b : Block) → b ≡ block_of (byte_at H (2 - k) r c)
        → Headed (layered b (place r c (2 - k)) (cell_blocks H r c k) ++ cells_from H r (c + 1))
    headed_layer k h ih Ends e = rest
    headed_layer k h ih Empty e = ih
    headed_layer k h ih (Identity v) e = headed_at k h (ap solid (sym e))
    headed_layer k h ih (Permutation v) e = headed_at k h (ap solid (sym e))

    headed_cell : (k : ℕ) → k ≤ 3 → Headed (cell_blocks H r c k ++ cells_from H r (c + 1))
    unfolding cell_blocks
    headed_cell zero h = rest
    headed_cell (suc k) h = headed_layer k h (headed_cell k (omega arith)) (block_of (byte_at H (2 - k) r c)) refl

  headed_row : (r : ℕ) → r < 4 → Headed (last_rows H (3 - r)) → (k : ℕ) → k ≤ 11 → Headed (row_blocks H r k ++ last_rows H (3 - r))
  unfolding row_blocks cells_from
  headed_row r rl rest zero h = rest
  headed_row r rl rest (suc k) h =
      let e : 11 - (10 - k + 1) ≡ k = omega arith in
      let cl : 10 - k < 11 = omega arith in
      let ih : Headed (cells_from H r (10 - k + 1)) = rw e (headed_row r rl rest k (omega arith)) in
      rw append_assoc (rw e at (headed_cell r (10 - k) rl cl ih 3 (omega arith)))

  headed_rows : (k : ℕ) → k ≤ 4 → Headed (last_rows H k)
  unfolding last_rows
  headed_rows zero h = none refl
  headed_rows (suc k) h =
      let e : 3 - (3 - k) ≡ k = omega arith in
      let rl : 3 - k < 4 = omega arith in
      let ih : Headed (last_rows H (3 - (3 - k))) = rw e (headed_rows k (omega arith)) in
      rw e at (headed_row (3 - k) rl ih 11 (omega arith))

  pub headed_all : Headed (blocks H)
  headed_all = headed_rows 4 (omega arith)

  pub headed_from : (r c l : ℕ) → r < 4 → c < 11 → Headed (blocks_from H r c l)
  unfolding blocks_from cells_from
  headed_from r c l rl cl =
      headed_cell r c rl cl (headed_row r rl (headed_rows (3 - r) (omega arith)) (11 - (c + 1)) (omega arith)) (3 - l) (omega arith)

-- the walk at the first of the blocks has the edges of them all
start_law : (code : ℕ) (ps : List Place) → Known code → Headed (prototype_of code) ps
    → remaining (start_at code (head_of ps)) ≡ flat_map (block_edges (matrix_of code)) ps
unfolding remaining flat_map block_edges
start_law code ps h (none e) = rw e (simp (lt-ltb code codes h))
start_law code ps h (some p d e) =
    let w : ParityIter = start_at code (Some p) in
    let m = (sized code h).low in
    let i : Inside w =
    record { code_low = h; row_low = d.row_low; col_low = d.col_low; layer_low = d.layer_low; i_low = omega arith } in
    rw e (rw (stands_at w i, d.full, sub-zero (matrix w).size))

begin_by : (code : ℕ) (b : Bool) → known code ≡ b
    → remaining (start_at code (head_of (pick b (blocks (prototype_of code)) []))) ≡ flat_map (block_edges (matrix_of code)) (pick b (blocks (prototype_of code)) [])
unfolding remaining flat_map
begin_by code true e = start_law code _ (ltb-true code codes e) (headed_all (prototype_of code))
begin_by code false e = rw e

pub begin : (code : ℕ) → remaining (new_of code) ≡ edges code
unfolding new_of edges blocks_of
begin code = begin_by code (known code) refl

-- the edge at which the walk stands, and the rest of its block
here : (w : ParityIter) → Inside w
    → span (edge_at (matrix w) (place_of w)) w.i ((matrix w).size - w.i)
    ≡ edge_at (matrix w) (place_of w) w.i ∷ span (edge_at (matrix w) (place_of w)) (w.i + 1) ((matrix w).size - (w.i + 1))
here w h =
    let m = (matrix w).size in
    let k : m - w.i ≡ suc (m - (w.i + 1)) = omega (arith, h.i_low) in
    span_first (edge_at (matrix w) (place_of w)) w.i _ _ k ∙ rw add-one

next_by : (w : ParityIter) → Inside w → solid (block_at (matrix w).prototype (place_of w)) ≡ true
    → (b : Bool) → ltb (w.i + 1) (matrix w).size ≡ b
    → remaining (pick b (record { code = w.code; row = w.row; col = w.col; layer = w.layer; i = w.i + 1 }) (start_at w.code (head_of (later w))))
    ≡ span (edge_at (matrix w) (place_of w)) (w.i + 1) ((matrix w).size - (w.i + 1)) ++ flat_map (block_edges (matrix w)) (later w)
unfolding remaining
next_by w h f true e =
    let w' : ParityIter = record { code = w.code; row = w.row; col = w.col; layer = w.layer; i = w.i + 1 } in
    let h' : Inside w' =
    record {
      code_low = h.code_low;
      row_low = h.row_low;
      col_low = h.col_low;
      layer_low = h.layer_low;
      i_low = ltb-true (w.i + 1) _ e;
    } in
    rw (stands_at w' h', f)
next_by w h f false e =
    let z : (matrix w).size - (w.i + 1) ≡ 0 = omega (arith, ltb-false (w.i + 1) (matrix w).size e) in
    rw (span_none (edge_at (matrix w) (place_of w)) (w.i + 1) ((matrix w).size - (w.i + 1)) z)
    (start_law w.code (later w) h.code_low (headed_from _ _ _ _ h.row_low h.col_low))

unroll_by : (w : ParityIter) (b : Bool) → stands w ≡ b → remaining w ≡ after (step_of w) (moved w)
unfolding remaining step_of moved next_of edge_at
unroll_by w false e = rw e
unroll_by w true e =
    let h = inside_of w (subst T (sym e) tt) in
    let f = sym (stands_at w h) ∙ e in
    rw e
    (ap (λ (l : List Edge). l ++ flat_map (block_edges (matrix w)) (later w)) (here w h)
    ∙ ap (λ (l : List Edge). edge_at (matrix w) (place_of w) w.i ∷ l) (sym (next_by w h f (ltb (w.i + 1) (matrix w).size) refl)))

-- what remains of a walk is the edge of its step, followed by what remains of the next walk
pub unroll : (w : ParityIter) → remaining w ≡ after (step_of w) (moved w)
unroll w = unroll_by w (stands w) refl

-- the promise of `next`, by what it answers and leaves
pub stepped : (w : ParityIter) (r : Option (Check × Bit)) (w' : ParityIter) → r ≡ step_of w → w' ≡ moved w → Steps w r w'
stepped w r w' e f = record { answers = e; moves = f; leaves = rw (e, f) (sym (unroll w)) }
