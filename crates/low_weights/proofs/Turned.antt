-- A word turned in each of its blocks, and the first one of a word. Assumes nothing.
use mathlib.Core.Logic.{◌≢◌}
use mathlib.Core.Path.{◌≡◌, sym, ap, ◌∙◌, subst}
use mathlib.Core.List.{List}
use Prim.Native.Nat.{ℕ, zero, suc, ◌+◌, ◌*◌, ◌/◌, ◌%◌, ◌<◌}
use native.Mathlib.Nat.{mod-lt, div-lt_iff_lt-mul}
use native.Mathlib.Decide.{ℕ_discrete}
use native.Mathlib.Omega.{arith}
use lib.Arith.{digits_div, digits_mod, digits_lt}
use Rattle.maths.specs.Sums.{sum_n, Even}
use Rattle.maths.proofs.Sums.{sum_n_ext, sum_n_zero, sum_n_blocks}
use Rattle.maths.proofs.Turns.{sum_n_turn}
use Rattle.matrices.specs.Circulants.{Circ}
use Rattle.matrices.proofs.Rows.{in_row, sum_row, sum_row_turn}

-- every sum of mb blocks of checks is even
abbrev pub EvenRows : ℕ → ℕ → List Circ → (ℕ → ℕ) → Type 0
EvenRows b mb ks w = (a t : ℕ) → a < mb → t < b → Even (sum_row b (in_row ks a) (λ q x. w (q * b + x)) t)

-- a bit turned in its block, and a word that is turned so
abbrev pub rot : ℕ → ℕ → ℕ → ℕ
rot b e v = v / b * b + (v % b + e) % b

abbrev pub turned_word : ℕ → ℕ → (ℕ → ℕ) → ℕ → ℕ
turned_word b e w v = w (rot b e v)

pub rot_low : (b : ℕ) → 0 < b → (e n v : ℕ) → v < n * b → rot b e v < n * b
rot_low b pos e n v h = digits_lt ((div-lt_iff_lt-mul pos).1 h) (mod-lt (v % b + e) pos)

module _ (b e : ℕ) (pos : 0 < b) (w : ℕ → ℕ) where
  pub turned_at : (q x : ℕ) → x < b → turned_word b e w (q * b + x) ≡ w (q * b + (x + e) % b)
  turned_at q x hx = rw (digits_div q hx, digits_mod q hx)

  pub turned_even : (mb : ℕ) (ks : List Circ) → EvenRows b mb ks w → EvenRows b mb ks (turned_word b e w)
  turned_even mb ks even a t ha ht =
      subst Even (sym (sum_row_turn b (in_row ks a) (λ q x. turned_word b e w (q * b + x)) (λ q x. w (q * b + x)) e t pos turned_at))
      (even a ((t + e) % b) ha (mod-lt (t + e) pos))

  -- as many ones
  pub turned_sum : (nb : ℕ) → sum_n (nb * b) (turned_word b e w) ≡ sum_n (nb * b) w
  turned_sum nb =
      sum_n_blocks nb b (turned_word b e w)
      ∙ sum_n_ext nb _ _ (λ q h.
      sum_n_ext b (λ x. turned_word b e w (q * b + x)) (λ x. w (q * b + (x + e) % b)) (λ x hx. turned_at q x hx) ∙ sum_n_turn b e (λ x. w (q * b + x)))
      ∙ sym (sum_n_blocks nb b w)

-- a word has no one below n, or a first one
pub data First (n : ℕ) (w : ℕ → ℕ) : Type 0 where
  nowhere : ((v : ℕ) → v < n → w v ≡ 0) → First n w
  at : (v : ℕ) → v < n → w v ≢ 0 → ((u : ℕ) → u < v → w u ≡ 0) → First n w

first_of : (n : ℕ) (w : ℕ → ℕ) → First n w
first_of zero w = nowhere (λ v h. absurd (omega arith))
first_of (suc n) w = go (first_of n w) (ℕ_discrete (w n) 0)
  where
    go : First n w → Dec (w n ≡ 0) → First (suc n) w
    go (at v h one before) d = at v (omega arith) one before
    go (nowhere none) (no d) = at n (omega arith) d none
    go (nowhere none) (yes d) = nowhere (λ v h. last v h (ℕ_discrete v n))
      where
        last : (v : ℕ) → v < suc n → Dec (v ≡ n) → w v ≡ 0
        last v h (yes e) = ap w e ∙ d
        last v h (no e) = none v (omega arith)

pub first_one : (n : ℕ) (w : ℕ → ℕ) → 0 < sum_n n w → (v : ℕ) × (v < n) × (w v ≢ 0) × ((u : ℕ) → u < v → w u ≡ 0)
first_one n w some = go (first_of n w)
  where
    go : First n w → (v : ℕ) × (v < n) × (w v ≢ 0) × ((u : ℕ) → u < v → w u ≡ 0)
    go (at v h one before) = (v, h, one, before)
    go (nowhere none) = absurd (omega (arith, sum_n_ext n w (λ v. 0) none, sum_n_zero n))
