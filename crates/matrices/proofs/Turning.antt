-- The rows of G turn with the circulants: the first row of each block of rows decides whether all meet the equations. Assumes nothing.
use mathlib.Core.Bool.{Bool, true, false}
use mathlib.Core.Path.{◌≡◌, refl, sym, ap, ap₂, ◌∙◌, subst, subst₂}
use mathlib.Core.List.{List}
use Prim.Native.Nat.{ℕ, ◌+◌, ◌-◌, ◌*◌, ◌/◌, ◌%◌, ◌≤◌, ◌<◌}
use native.Mathlib.Nat.{mod-lt, mul-sub, mul_comm, div-add-mod', div-lt_iff_lt-mul, mul-le-mul_right}
use native.Mathlib.Decide.{dec_lt}
use native.Mathlib.Omega.{arith}
use lib.Dec.{eqb, ltb}
use lib.Arith.{digits_div, digits_mod, digits_lt}
use borrow.Author.Tests.{lt-ltb, le-ltb}
use Rattle.maths.specs.Tests.{pick, both}
use Rattle.maths.specs.Sums.{Even}
use Rattle.maths.specs.Ones.{delta}
use Rattle.maths.proofs.Digits.{digits_eqb}
use Rattle.maths.proofs.Turns.{turn_self, turn_eqb}
use Rattle.codes.specs.Equations.{par, Hold}
use Rattle.matrices.specs.Circulants.{Circ, edges_of}
use Rattle.matrices.specs.Generators.{systematic}
use Rattle.matrices.proofs.Rows.{in_row, sum_row, par_row, sum_row_turn}
use Rattle.matrices.proofs.Generators.{adds_entry}

-- row c * b of G, by block and offset, with K blocks of data
abbrev pub based : ℕ → ℕ → (ℕ → ℕ → ℕ) → ℕ → ℕ → ℕ → ℕ
based b K G c q y = pick (ltb q K) (pick (eqb q c) (delta 0 y) 0) (G c ((q - K) * b + y))

module _ (b K : ℕ) (pos : 0 < b) (G : ℕ → ℕ → ℕ) where
  row_turn : (c o q x : ℕ) → o < b → x < b → systematic b (K * b) G (c * b + o) (q * b + x) ≡ based b K G c q ((x + (b - o)) % b)
  row_turn c o q x ho hx = go (dec_lt q K)
    where
      inner : delta (c * b + o) (q * b + x) ≡ pick (eqb q c) (delta 0 ((x + (b - o)) % b)) 0
      inner =
          let first = ap (eqb ((x + (b - o)) % b)) (sym (turn_self b o ho)) ∙ turn_eqb b x o (b - o) hx ho in
          rw (digits_eqb b q c hx ho, first) (nested (eqb q c) (eqb x o))
        where
          nested : (y z : Bool) → pick {A = ℕ} (both y z) 1 0 ≡ pick y (pick z 1 0) 0
          nested true z = refl
          nested false z = refl

      go : Dec (q < K) → systematic b (K * b) G (c * b + o) (q * b + x) ≡ based b K G c q ((x + (b - o)) % b)
      go (yes h) = rw (lt-ltb q K h, lt-ltb (q * b + x) (K * b) (digits_lt h hx)) inner
      go (no h) =
          let l : K ≤ q = omega arith in
          let g : K * b ≤ q * b = mul-le-mul_right b l in
          let f : (q - K) * b ≡ q * b - K * b = mul_comm (q - K) b ∙ mul-sub b q K ∙ ap₂ (λ (y z : ℕ). y - z) (mul_comm b q) (mul_comm b K) in
          let e : q * b + x - K * b ≡ (q - K) * b + x = omega arith in
          rw (
            le-ltb q K l,
            le-ltb (q * b + x) (K * b) (omega arith),
            ← adds_entry b pos G (c * b + o) (q * b + x - K * b),
            e,
            digits_div c ho,
            digits_mod c ho,
            digits_div (q - K) hx,
            digits_mod (q - K) hx,
          )

module _ (b K mb : ℕ) (pos : 0 < b) (ks : List Circ) (G : ℕ → ℕ → ℕ)
    (rows : (c a y : ℕ) → c < K → a < mb → y < b → Even (sum_row b (in_row ks a) (based b K G c) y)) where
  row_par : (c o a t : ℕ) → o < b → t < b
      → par (edges_of b ks) (systematic b (K * b) G (c * b + o)) (a * b + t) ≡ sum_row b (in_row ks a) (based b K G c) ((t + (b - o)) % b)
  row_par c o a t ho ht =
      par_row b ks (systematic b (K * b) G (c * b + o)) a t ht
      ∙ sum_row_turn b (in_row ks a) (λ q x. systematic b (K * b) G (c * b + o) (q * b + x)) (based b K G c) (b - o) t pos
      (λ q x hx. row_turn b K pos G c o q x ho hx)

  -- every row of G meets the equations
  pub row_meets : (i : ℕ) → i < K * b → Hold (edges_of b ks) (mb * b) (systematic b (K * b) G i)
  row_meets i hi a ha =
      subst₂ (λ (x y : ℕ). Even (par (edges_of b ks) (systematic b (K * b) G x) y)) (div-add-mod' i b) (div-add-mod' a b)
      (subst Even (sym (row_par (i / b) (i % b) (a / b) (a % b) (mod-lt i pos) (mod-lt a pos)))
      (rows (i / b) (a / b) ((a % b + (b - i % b)) % b) ((div-lt_iff_lt-mul pos).1 hi) ((div-lt_iff_lt-mul pos).1 ha)
      (mod-lt (a % b + (b - i % b)) pos)))
