-- The edges of a code are those of its circulants, in the same order. Assumes nothing.
use mathlib.Core.Bool.{Bool, true, false}
use mathlib.Core.List.{List, []}
use mathlib.Core.Path.{◌≡◌, refl, sym, ap₂, ◌∙◌, subst, subst₂}
use Prim.Native.Nat.{ℕ, zero, ◌+◌, ◌*◌, ◌/◌, ◌%◌, ◌<◌}
use native.Mathlib.Nat.{add-zero, zero-add, add_comm, add-mul, zero-mul, mul_comm, mul_assoc, eq_of_mul-eq-mul_right, mul-div_cancel_left, mod-eq_of_lt, add-mul-mod_self_right}
use native.Mathlib.Omega.{arith}
use borrow.Author.Tests.{eqb-true}
use lib.Arith.{digits_div, digits_lt}
use lib.Dec.{T, eqb, eqb→eq}
use lib.ListN.{get_or}
use Rattle.maths.specs.Tests.{pick, all, below}
use Rattle.maths.specs.Lists.{span}
use Rattle.maths.proofs.Tests.{below_at}
use Rattle.maths.proofs.Lists.{span_ext, flat_map_ext, flat_map_flat_map, flat_map_span}
use Rattle.codes.specs.declared.parity_iter.Place.{Place}
use Rattle.codes.specs.declared.parity_iter.Block.{Block}
use Rattle.codes.specs.declared.parity_iter.Block.TheVariants.{Ends, Empty, Identity, Permutation}
use Rattle.tables.specs.Tables.{prototypes}
use Rattle.codes.specs.Codes.{codes, Known, Matrix, matrix_of, prototype_of, rows, row_of, tables, bits_in, checks_in, circulant_of}
use Rattle.codes.specs.Blocks.{block_of, block_at, cell_blocks, row_blocks, last_rows}
use Rattle.codes.specs.Edges.{Edge, edge, column_of, edge_at, block_edges, blocks_of, edges}
use Rattle.matrices.specs.Circulants.{Circ, circ, spot, ring, edges_of, circs_at, block_circs, circs}
use Rattle.matrices.proofs.Sizes.{data_blocks, check_blocks, bit_blocks, sizes}

-- the edge of row i of a block, by its block row and block column
sides : Matrix → Block → ℕ → ℕ → ℕ → Edge
sides x k r c i = edge (r * x.size + i) (c * x.size + column_of x k i)

-- a block is made of circulants of size b: one, or where an identity is not turned any number, or a permutation's four
fits : Matrix → ℕ → Block → Bool
fits x b Ends = false
fits x b Empty = false
fits x b (Identity v) = pick (eqb v 0) true (eqb x.size b)
fits x b (Permutation v) = eqb x.size (4 * b)

module _ (x : Matrix) (b s : ℕ) (whole : x.size ≡ s * b) where
  -- row t of the j-th circulant of a block
  inner : (r j t : ℕ) → r * x.size + (j * b + t) ≡ (r * s + j) * b + t
  inner r j t = rw (whole, ← mul_assoc r s b) (omega (arith, add-mul (r * s) j b))

  -- one circulant in each row of them
  by_circs : (e : ℕ → Edge) (k : ℕ → Circ)
      → ((j t : ℕ) → j < s → t < b → e (j * b + t) ≡ edge ((k j).row * b + t) (spot b t (k j)))
      → span e 0 x.size ≡ edges_of b (span k 0 s)
  unfolding edges_of ring
  by_circs e k h = rw whole (sym (rw zero-mul at (flat_map_span (ring b) k e b s 0 (λ j _ l. part j (omega arith)))))
    where
      part : (j : ℕ) → j < s → ring b (k j) ≡ span e (j * b) b
      part j l = sym (span_ext e _ (j * b) 0 b (λ t m. rw zero-add (h j t l m)))

  module _ (pos : zero < b) (r c : ℕ) where
    -- an identity, turned only where one circulant makes up the block
    identity_circs : (v : ℕ) → T (fits x b (Identity v))
        → span (sides x (Identity v) r c) 0 x.size ≡ edges_of b (span (λ j. circ (r * s + j) (c * s + j) v) 0 s)
    unfolding sides fits
    identity_circs v f = by_circs _ _ (λ j t l m. ap₂ edge (inner r j t) (rw (turn j t l m) (inner c j ((v + t) % b))))
      where
        turn : (j t : ℕ) → j < s → t < b → (j * b + t + v) % x.size ≡ j * b + (v + t) % b
        turn j t l m = go (eqb v 0) refl f
          where
            go : (z : Bool) → eqb v 0 ≡ z → T (pick z true (eqb x.size b)) → (j * b + t + v) % x.size ≡ j * b + (v + t) % b
            go true e _ =
                let n : v ≡ 0 = eqb-true v 0 e in
                let low : j * b + t < s * b = digits_lt l m in
                rw (n, whole, add-zero (j * b + t), zero-add t, mod-eq_of_lt low, mod-eq_of_lt m)
            go false _ g =
                let same : x.size ≡ b = eqb→eq x.size b g in
                let one : s ≡ 1 = eq_of_mul-eq-mul_right b pos s 1 (omega arith) in
                let first : j ≡ 0 = omega arith in
                rw (same, first, zero-mul b, zero-add t, zero-add ((v + t) % b), add_comm t v)

    -- a permutation, of four circulants
    permutation_circs : (v : ℕ) → T (fits x b (Permutation v))
        → span (sides x (Permutation v) r c) 0 x.size
        ≡ edges_of b (span (λ j. circ (r * s + j) (c * s + (get_or x.theta v 0 + j) % 4) (get_or (get_or x.phi j []) v 0)) 0 s)
    unfolding sides fits
    permutation_circs v f = by_circs _ _ (λ j t l m. ap₂ edge (inner r j t) (column j t l m))
      where
        quarter : x.size / 4 ≡ b
        quarter = rw (eqb→eq x.size (4 * b) f) (mul-div_cancel_left b {n = 4} (omega arith))

        column : (j t : ℕ) → j < s → t < b
            → c * x.size + column_of x (Permutation v) (j * b + t)
            ≡ (c * s + (get_or x.theta v 0 + j) % 4) * b + (get_or (get_or x.phi j []) v 0 + t) % b
        column j t l m =
            let z = (get_or x.theta v 0 + j) % 4 in
            let h = get_or (get_or x.phi j []) v 0 in
            let e : h + (j * b + t) ≡ h + t + j * b = omega arith in
            rw (quarter, digits_div j m, e, add-mul-mod_self_right (h + t) j b, mul_comm b z) (inner c z ((h + t) % b))

-- a block's edges
block_circs_lem : (x : Matrix) (b r c : ℕ) (k : Block) → zero < b → x.size ≡ x.size / b * b → T (fits x b k)
    → span (sides x k r c) 0 x.size ≡ edges_of b (circs_at x b k r c)
unfolding fits circs_at
block_circs_lem x b r c Ends pos whole f = absurd f
block_circs_lem x b r c Empty pos whole f = absurd f
block_circs_lem x b r c (Identity v) pos whole f = identity_circs x b (x.size / b) whole pos r c v f
block_circs_lem x b r c (Permutation v) pos whole f = permutation_circs x b (x.size / b) whole pos r c v f

-- each block that a code lists has circulants
listed : ℕ → Place → Bool
listed code p = fits (matrix_of code) (circulant_of code) (block_at (prototype_of code) p)

all_listed : T (below codes (λ code. all (listed code) (blocks_of code)))
unfolding listed fits rows tables prototypes blocks_of last_rows row_blocks cell_blocks block_of
all_listed = tt

-- the edges of a code are those of its circulants, in the same order
pub edges_circs : (code : ℕ) → Known code → edges code ≡ edges_of (circulant_of code) (circs code)
unfolding listed edges edges_of circs block_edges edge_at block_circs sides
edges_circs code h =
    let x = matrix_of code in
    let b = circulant_of code in
    let z = sizes code h in
    flat_map_ext (listed code) (block_edges x) (λ p. edges_of b (block_circs x b p)) (blocks_of code)
    (below_at codes (λ c. all (listed c) (blocks_of c)) all_listed code h)
    (λ p f. block_circs_lem x b p.row p.col (block_at x.prototype p) z.some z.whole f)
    ∙ sym (flat_map_flat_map (ring b) (block_circs x b) (blocks_of code))

-- what holds of a code's circulants, with its checks, its bits and its data counted in blocks, holds of its edges
pub of_edges : (code : ℕ) → Known code → (P : List Edge → ℕ → ℕ → ℕ → Type 0)
    → (let b = circulant_of code in P (edges_of b (circs code)) (check_blocks code * b) (bit_blocks code * b) (data_blocks code * b))
    → P (edges code) (checks_in code) (bits_in code) (row_of code).k
of_edges code h P holds =
    let z = sizes code h in
    subst (λ (k : ℕ). P (edges code) (checks_in code) (bits_in code) k) z.data_blocks_lem
    (subst₂ (λ (m n : ℕ). P (edges code) m n (data_blocks code * circulant_of code)) z.check_blocks_lem z.bit_blocks_lem
    (subst (λ (es : List Edge). P es (check_blocks code * circulant_of code) (bit_blocks code * circulant_of code) (data_blocks code * circulant_of code))
    (sym (edges_circs code h)) holds))
