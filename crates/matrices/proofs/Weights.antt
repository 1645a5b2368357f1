-- The checks of a bit in a matrix of circulants, and their number. Assumes nothing.
use mathlib.Core.Bool.{Bool}
use mathlib.Core.List.{List, [], ◌∷◌, map}
use mathlib.Core.Path.{◌≡◌, sym, ap, ◌∙◌}
use Prim.Native.Nat.{ℕ, ◌+◌, ◌-◌, ◌*◌, ◌/◌, ◌%◌, ◌<◌}
use native.Mathlib.Nat.{add_comm, mod-lt, mod-eq_of_lt, div-add-mod', div-lt_iff_lt-mul}
use native.Mathlib.Omega.{arith}
use lib.Dec.{T, eqb, eqb→eq}
use lib.ListN.{length, length-map}
use borrow.Author.Tests.{eq-eqb, ne_eqb}
use Rattle.maths.specs.Tests.{pick, below}
use Rattle.maths.specs.Lists.{keep}
use Rattle.maths.proofs.Tests.{both_true, both_false, below_at}
use Rattle.maths.proofs.Tally.{keep_one}
use Rattle.maths.proofs.Digits.{digits_eqb}
use Rattle.maths.proofs.Turns.{turn_term, turn_back, turn_inj}
use Rattle.codes.specs.Edges.{edge}
use Rattle.codes.specs.Equations.{bit_of, check_of, checks_of}
use Rattle.matrices.specs.Circulants.{Circ, spot, ring, edges_of}
use Rattle.matrices.specs.Columns.{Odd}
use Rattle.matrices.proofs.Edges.{ends_flat}
use Rattle.matrices.proofs.Rows.{in_column}

module _ (b : ℕ) (pos : 0 < b) where
  -- the row of a circulant that has its edge to offset x
  abbrev pub row_to : ℕ → Circ → ℕ
  row_to x k = (x + (b - k.turn % b)) % b

  pub row_to_lem : (x : ℕ) (k : Circ) → x < b → (k.turn + row_to x k) % b ≡ x
  row_to_lem x k hx =
      sym (turn_term b k.turn x (b - k.turn % b)) ∙ rw (add_comm k.turn x) (turn_back b x k.turn pos) ∙ mod-eq_of_lt hx

  -- the checks of a bit: one for each circulant of its column
  pub checks_column : (ks : List Circ) (p x : ℕ) → x < b
      → checks_of (edges_of b ks) (p * b + x) ≡ map (λ k. k.row * b + row_to x k) (in_column ks p)
  unfolding edges_of ring
  checks_column ks p x hx =
      ends_flat bit_of check_of (ring b) (λ k. eqb k.col p) (λ k. edge (k.row * b + row_to x k) (spot b (row_to x k) k)) ks (p * b + x) one
    where
      other : (k : Circ) (i : ℕ) → i < b → (k.turn + i) % b ≡ x → i ≡ row_to x k
      other k i hi e =
          turn_inj b i (row_to x k) k.turn hi (mod-lt (x + (b - k.turn % b)) pos)
          (rw (add_comm i k.turn, add_comm (row_to x k) k.turn) (e ∙ sym (row_to_lem x k hx)))

      one : (k : Circ) → keep (λ e. eqb e.bit (p * b + x)) (ring b k) ≡ pick (eqb k.col p) (edge (k.row * b + row_to x k) (spot b (row_to x k) k) ∷ []) []
      one k =
          keep_one (λ e. eqb e.bit (p * b + x)) (λ t. edge (k.row * b + t) (spot b t k)) 0 b (row_to x k) (omega arith)
          (omega (arith, mod-lt (x + (b - k.turn % b)) pos))
          (λ i l ne.
          rw (
            digits_eqb b k.col p (mod-lt (k.turn + i) pos) hx,
            ne_eqb ((k.turn + i) % b) x (λ e. ne (other k i (omega arith) e)),
            both_false (eqb k.col p),
          ))
          ∙ rw (
            digits_eqb b k.col p (mod-lt (k.turn + row_to x k) pos) hx,
            eq-eqb ((k.turn + row_to x k) % b) x (row_to_lem x k hx),
            both_true (eqb k.col p),
          )

  -- a bit has as many edges as its column has circulants
  edges_in_column : (ks : List Circ) (v : ℕ) → length (checks_of (edges_of b ks) v) ≡ length (in_column ks (v / b))
  edges_in_column ks v =
      rw (div-add-mod' v b) at (ap length (checks_column ks (v / b) (v % b) (mod-lt v pos)) ∙ length-map (in_column ks (v / b)) _)

-- column p has an odd number of circulants
abbrev pub odd_test : List Circ → ℕ → Bool
odd_test ks p = eqb (length (in_column ks p) % 2) 1

pub columns_odd : (b nb : ℕ) (ks : List Circ) → 0 < b → T (below nb (odd_test ks)) → (v : ℕ) → v < nb * b → Odd (edges_of b ks) v
columns_odd b nb ks pos t v h =
    ap (λ (x : ℕ). x % 2) (edges_in_column b pos ks v)
    ∙ eqb→eq (length (in_column ks (v / b)) % 2) 1 (below_at nb (odd_test ks) t (v / b) ((div-lt_iff_lt-mul pos).1 h))
