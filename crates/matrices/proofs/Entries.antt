-- The edges of a code are the ones of the standard's matrix. Assumes nothing.
use mathlib.Core.Bool.{Bool}
use mathlib.Core.List.{List, []}
use mathlib.Core.Path.{◌≡◌, refl, ap, ◌∙◌}
use Prim.Native.Nat.{ℕ, ◌+◌, ◌*◌, ◌/◌, ◌%◌, ◌<◌}
use native.Mathlib.Nat.{mod-lt, mod-eq_of_lt, add-sub_cancel, div-add-mod', div-lt_iff_lt-mul, mul-div-mul_left}
use native.Mathlib.Omega.{arith}
use lib.Dec.{eqb}
use Rattle.maths.specs.Tests.{both}
use Rattle.maths.specs.Lists.{span, keep}
use Rattle.maths.specs.Tally.{tally}
use Rattle.maths.proofs.Lists.{table_same}
use Rattle.maths.proofs.Tally.{tally_keep}
use Rattle.codes.specs.declared.parity_iter.Place.{Place}
use Rattle.codes.specs.declared.parity_iter.Block.{Block}
use Rattle.codes.specs.declared.parity_iter.Block.TheVariants.{Ends, Empty, Identity, Permutation}
use Rattle.tables.specs.Tables.{prototypes}
use Rattle.codes.specs.Codes.{codes, Known, matrix_of, prototype_of, tables, bits_in, checks_in}
use Rattle.codes.specs.Blocks.{block_of, block_at, place, layered, cell_blocks, row_blocks, last_rows}
use Rattle.codes.specs.Edges.{edge_at, column_of, block_edges, blocks_of, edges}
use Rattle.codes.proofs.Columns.{column_inside}
use Rattle.matrices.specs.Counts.{count}
use Rattle.matrices.specs.Ccsds.{Cell, Term, permuted, cell_of, column, ones, entry}
use Rattle.matrices.specs.Reading.{with_layer, read}
use Rattle.matrices.proofs.Sizes.{size_of, sizes}
use Rattle.matrices.proofs.Standard.{decoded, size_same}
use Rattle.matrices.proofs.Rows.{count_laid}
use Rattle.matrices.proofs.Once.{once}

-- the blocks of one cell are those of its layers
abbrev in_cell : ℕ → ℕ → ℕ → List Place
in_cell code r c = keep (λ p. eqb p.col c) (keep (λ p. eqb p.row r) (blocks_of code))

in_cell_lem : (code r c : ℕ) → Known code → r < 4 → c < 11 → in_cell code r c ≡ cell_blocks (prototype_of code) r c 3
unfolding span prototypes tables blocks_of last_rows row_blocks cell_blocks block_of
in_cell_lem = table_same in_cell (λ code r c. cell_blocks (prototype_of code) r c 3) codes 4 11 refl

module _ (code : ℕ) (h : Known code) (i j : ℕ) where
  -- row i of the block at a place has its one in column j
  abbrev in_place : Place → Bool
  in_place p = eqb (column_of (matrix_of code) (block_at (prototype_of code) p) i) j

  -- an edge for each such place in the cell
  count_blocks : (r c : ℕ) → i < size_of code → j < size_of code
      → count (edges code) (r * size_of code + i) (c * size_of code + j) ≡ tally in_place (in_cell code r c)
  unfolding edges block_edges edge_at
  count_blocks r c hi hj =
      let m = size_of code in
      let x = matrix_of code in
      let at : Place → Block = block_at (prototype_of code) in
      count_laid m (λ p. p.row) (λ p. p.col) (λ p. column_of x (at p)) (blocks_of code) r i c j hi hj
      (λ p. column_inside x i (sizes code h).four hi (at p))
      ∙ tally_keep (λ p. eqb p.row r) (λ p. both (eqb p.col c) (in_place p)) (blocks_of code)
      ∙ tally_keep (λ p. eqb p.col c) in_place (keep (λ p. eqb p.row r) (blocks_of code))

  -- row i of a term has its one in column j
  abbrev in_term : Term → Bool
  in_term t = eqb (column code (size_of code) t i) j

  -- the standard's permutation is the library's
  permuted_same : (v : ℕ) → column_of (matrix_of code) (Permutation v) i ≡ column code (size_of code) (permuted (v + 1)) i
  permuted_same v =
      let m = size_of code in
      let four = (sizes code h).four in
      let quarters : m ≡ 4 * (m / 4) = omega arith in
      let e = ap (λ (n : ℕ). 4 * i / n) quarters ∙ mul-div-mul_left i (m / 4) (omega arith) in
      rw (e, add-sub_cancel v 1)

  -- a layer's place and its term
  layer_same : (p : Place) (k : Block) → block_at (prototype_of code) p ≡ k → (ps : List Place) (ts : Cell)
      → tally in_place ps ≡ tally in_term ts → tally in_place (layered k p ps) ≡ tally in_term (with_layer k ts)
  layer_same p Ends e ps ts n = refl
  layer_same p Empty e ps ts n = n
  layer_same p (Identity v) e ps ts n = rw (e, n)
  layer_same p (Permutation v) e ps ts n = rw (e, n, permuted_same v)

  cell_same : (r c : ℕ) → tally in_place (cell_blocks (prototype_of code) r c 3) ≡ tally in_term (read (prototype_of code) r c)
  unfolding cell_blocks read
  cell_same r c =
      layer_same (place r c 0) _ refl _ _ (layer_same (place r c 1) _ refl _ _ (layer_same (place r c 2) _ refl [] [] refl))

-- an entry of the standard's matrix is the number of edges that join its check and its bit
pub entry_edges : (code a v : ℕ) → Known code → a < checks_in code → v < bits_in code → count (edges code) a v ≡ entry code a v
unfolding entry
entry_edges code a v h ha hv =
    let m = size_of code in
    let z = sizes code h in
    let pos = z.large in
    let r = a / m in
    let c = v / m in
    let i = a % m in
    let j = v % m in
    let hr : r < 4 = (div-lt_iff_lt-mul pos).1 (omega arith) in
    let hc : c < 11 = (div-lt_iff_lt-mul pos).1 (omega arith) in
    let in_all = count_blocks code h i j r c (mod-lt a pos) (mod-lt v pos) in
    let places = rw (div-add-mod' a m, div-add-mod' v m, in_cell_lem code r c h hr hc) at in_all in
    let terms = rw (decoded code r c h hr hc) at (cell_same code h i j r c) in
    let low : ones code m (cell_of code r c) i j < 2 = omega (arith, once code a v h, places, terms) in
    rw (size_same code h, mod-eq_of_lt low) (places ∙ terms)
