-- Edges laid out block by block, one in each row of a block: the bits of a check, their sums, and how many edges join a check and a bit.
-- Assumes nothing.
use mathlib.Core.Bool.{Bool}
use mathlib.Core.Path.{◌≡◌, refl, sym, ap, ap₂, ◌∙◌, fun_ext}
use mathlib.Core.List.{List, [], ◌∷◌, map, flat_map}
use Prim.Native.Nat.{ℕ, ◌+◌, ◌*◌, ◌%◌, ◌<◌}
use native.Mathlib.Nat.{mod-lt}
use native.Mathlib.Omega.{arith}
use lib.Dec.{eqb}
use borrow.Author.Tests.{eq-eqb, ne_eqb}
use Rattle.maths.specs.Tests.{pick, both}
use Rattle.maths.specs.Lists.{span, keep}
use Rattle.maths.specs.Tally.{tally}
use Rattle.maths.specs.Sums.{sum_l}
use Rattle.maths.specs.Ones.{delta}
use Rattle.maths.proofs.Tests.{both_true, both_false}
use Rattle.maths.proofs.Tally.{keep_one, tally_keep, sum_tally}
use Rattle.maths.proofs.Digits.{digits_eqb}
use Rattle.maths.proofs.Turns.{turn_term}
use Rattle.codes.specs.Edges.{Edge, edge}
use Rattle.codes.specs.Equations.{bits_of, check_of, bit_of, par}
use Rattle.matrices.specs.Circulants.{Circ, spot, ring, edges_of}
use Rattle.matrices.specs.Counts.{count}
use Rattle.matrices.proofs.Edges.{ends_flat, count_par}

-- the edges of a block of m rows, in the block of checks p and of bits q, at the columns c
abbrev laid : ℕ → ℕ → ℕ → (ℕ → ℕ) → List Edge
laid m p q c = span (λ i. edge (p * m + i) (q * m + c i)) 0 m

module _ {B : Type 0} (m : ℕ) (p q : B → ℕ) (c : B → ℕ → ℕ) (xs : List B) where
  -- the bits of a check: one for each block in its row of blocks
  bits_laid : (r t : ℕ) → t < m
      → bits_of (flat_map (λ x. laid m (p x) (q x) (c x)) xs) (r * m + t) ≡ map (λ x. q x * m + c x t) (keep (λ x. eqb (p x) r) xs)
  bits_laid r t h =
      ends_flat check_of bit_of (λ x. laid m (p x) (q x) (c x)) (λ x. eqb (p x) r) (λ x. edge (p x * m + t) (q x * m + c x t)) xs (r * m + t) one
    where
      one : (x : B) → keep (λ e. eqb e.check (r * m + t)) (laid m (p x) (q x) (c x)) ≡ pick (eqb (p x) r) (edge (p x * m + t) (q x * m + c x t) ∷ []) []
      one x =
          keep_one (λ e. eqb e.check (r * m + t)) (λ i. edge (p x * m + i) (q x * m + c x i)) 0 m t (omega arith) (omega arith)
          (λ i l ne. rw (digits_eqb m (p x) r {s = i} {t = t} (omega arith) h, ne_eqb i t ne, both_false (eqb (p x) r)))
          ∙ rw (digits_eqb m (p x) r h h, eq-eqb t t refl, both_true (eqb (p x) r))

  -- how many edges join a check and a bit: one for each block that has it
  pub count_laid : (r t s u : ℕ) → t < m → u < m → ((x : B) → c x t < m)
      → count (flat_map (λ x. laid m (p x) (q x) (c x)) xs) (r * m + t) (s * m + u)
      ≡ tally (λ x. both (eqb (p x) r) (both (eqb (q x) s) (eqb (c x t) u))) xs
  count_laid r t s u ht hu low =
      let in_row = keep (λ x. eqb (p x) r) xs in
      count_par (flat_map (λ x. laid m (p x) (q x) (c x)) xs) (r * m + t) (s * m + u)
      ∙ ap (λ (vs : List ℕ). sum_l vs (delta (s * m + u))) (bits_laid r t ht)
      ∙ sum_tally (λ x. q x * m + c x t) in_row (s * m + u)
      ∙ ap (λ (f : B → Bool). tally f in_row) (fun_ext (λ x. digits_eqb m (q x) s (low x) hu))
      ∙ sym (tally_keep (λ x. eqb (p x) r) (λ x. both (eqb (q x) s) (eqb (c x t) u)) xs)

-- ---- circulants

-- those of one row, and those of one column
abbrev pub in_row : List Circ → ℕ → List Circ
in_row ks a = keep (λ k. eqb k.row a) ks

abbrev pub in_column : List Circ → ℕ → List Circ
in_column ks p = keep (λ k. eqb k.col p) ks

-- the sum over a row of circulants at offset t, of a word given by block and offset
abbrev pub sum_row : ℕ → List Circ → (ℕ → ℕ → ℕ) → ℕ → ℕ
sum_row b [] W t = 0
sum_row b (k ∷ ks) W t = W k.col ((k.turn + t) % b) + sum_row b ks W t

module _ (b : ℕ) where
  pub sum_row_lem : (ks : List Circ) (w : ℕ → ℕ) (t : ℕ) → sum_l (map (spot b t) ks) w ≡ sum_row b ks (λ q x. w (q * b + x)) t
  sum_row_lem [] w t = refl
  sum_row_lem (k ∷ ks) w t = ap (λ (x : ℕ). w (spot b t k) + x) (sum_row_lem ks w t)

  -- the sum of a check, by block and offset
  pub par_row : (ks : List Circ) (w : ℕ → ℕ) (a t : ℕ) → t < b → par (edges_of b ks) w (a * b + t) ≡ sum_row b (in_row ks a) (λ q x. w (q * b + x)) t
  unfolding edges_of ring
  par_row ks w a t h =
      ap (λ (vs : List ℕ). sum_l vs w) (bits_laid b (λ k. k.row) (λ k. k.col) (λ k i. (k.turn + i) % b) ks a t h) ∙ sum_row_lem (in_row ks a) w t

  -- a word turned in each block has turned sums
  pub sum_row_turn : (ks : List Circ) (W W' : ℕ → ℕ → ℕ) (e t : ℕ) → 0 < b → ((q x : ℕ) → x < b → W q x ≡ W' q ((x + e) % b))
      → sum_row b ks W t ≡ sum_row b ks W' ((t + e) % b)
  sum_row_turn [] W W' e t pos h = refl
  sum_row_turn (k ∷ ks) W W' e t pos h =
      ap₂ (λ (x y : ℕ). x + y)
      (h k.col ((k.turn + t) % b) (mod-lt (k.turn + t) pos) ∙ ap (W' k.col) (turn_term b k.turn t e))
      (sum_row_turn ks W W' e t pos h)
