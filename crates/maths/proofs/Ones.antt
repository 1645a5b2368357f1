-- Laws of words with few ones: a sum with the word of one bit, and the places at which a word is not 0. Assumes nothing.
use mathlib.Core.Bool.{Bool, true, false}
use mathlib.Core.Logic.{◌≢◌}
use mathlib.Core.Path.{◌≡◌, refl, sym, ap, ap₂, ◌∙◌}
use mathlib.Core.List.{List, [], ◌∷◌}
use Prim.Native.Nat.{ℕ, zero, suc, ◌+◌, ◌*◌, ◌≤◌, ◌<◌}
use native.Mathlib.Nat.{mul-zero, zero-mul, mul-one, one-mul}
use native.Mathlib.Decide.{ℕ_discrete}
use native.Mathlib.Omega.{arith}
use lib.Dec.{T, eqb, ltb, ltb→lt}
use lib.ListN.{length}
use borrow.Author.Tests.{eq-eqb, ne_eqb, lt-ltb}
use Rattle.maths.specs.Tests.{pick, all}
use Rattle.maths.specs.Sums.{sum_l, sum_n}
use Rattle.maths.specs.Ones.{delta, ones}
use Rattle.maths.proofs.Tests.{both_left, both_right, eqb_swap}
use Rattle.maths.proofs.Sums.{sum_l_sum_n, sum_n_ext, sum_l_mul}

pub delta_low : (x v : ℕ) → delta x v < 2
delta_low x v = go (eqb v x)
  where
    go : (b : Bool) → pick {A = ℕ} b 1 0 < 2
    go true = omega arith
    go false = omega arith

pub delta_swap : (x v : ℕ) → delta x v ≡ delta v x
delta_swap x v = ap (λ (b : Bool). pick b 1 0) (eqb_swap v x)

pub delta_self : (x : ℕ) → delta x x ≡ 1
delta_self x = rw (eq-eqb x x refl)

pub delta_other : (x v : ℕ) → v ≢ x → delta x v ≡ 0
delta_other x v h = rw (ne_eqb v x h)

-- of a sum of words of one bit only one term is left
sum_delta_above : (d : ℕ → ℕ) (v n : ℕ) → (v < n → ⊥) → sum_n n (λ i. d i * delta i v) ≡ 0
sum_delta_above d v zero h = refl
sum_delta_above d v (suc n) h =
    rw (delta_other n v (λ e. h (omega arith)), mul-zero (d n)) (omega (arith, sum_delta_above d v n (λ l. h (omega arith))))

pub sum_delta : (d : ℕ → ℕ) (v n : ℕ) → v < n → sum_n n (λ i. d i * delta i v) ≡ d v
sum_delta d v zero h = absurd (omega arith)
sum_delta d v (suc n) h = go (ℕ_discrete v n) (sum_delta d v n)
  where
    go : Dec (v ≡ n) → (v < n → sum_n n (λ i. d i * delta i v) ≡ d v) → sum_n (suc n) (λ i. d i * delta i v) ≡ d v
    go (yes e) ih = rw (e, delta_self n, mul-one (d n)) (omega (arith, sum_delta_above d n n (λ l. omega arith)))
    go (no e) ih = rw (delta_other n v e, mul-zero (d n)) (omega (arith, ih (omega arith)))

-- a sum over places, each of which gives 1, is their number
pub sum_all : (vs : List ℕ) (w : ℕ → ℕ) → ((v : ℕ) → 0 < sum_l vs (delta v) → w v ≡ 1) → sum_l vs w ≡ length vs
sum_all [] w h = refl
sum_all (v ∷ vs) w h = omega (arith, h v (omega (arith, delta_self v)), sum_all vs w (λ u l. h u (omega arith)))

-- a sum over places below n is a sum over the numbers below n, each as often as it stands among the places
pub sum_counts : (n : ℕ) (vs : List ℕ) (w : ℕ → ℕ) → T (all (λ v. ltb v n) vs) → sum_l vs w ≡ sum_n n (λ v. w v * sum_l vs (delta v))
sum_counts n vs w t =
    expand vs t ∙ sum_l_sum_n n vs (λ i v. w i * delta i v) ∙ sum_n_ext n _ _ (λ i h. sum_l_mul (w i) vs (delta i))
  where
    expand : (us : List ℕ) → T (all (λ v. ltb v n) us) → sum_l us w ≡ sum_l us (λ v. sum_n n (λ i. w i * delta i v))
    expand [] t = refl
    expand (u ∷ us) t =
        ap₂ (λ (x y : ℕ). x + y) (sym (sum_delta w u n (ltb→lt u n (both_left (ltb u n) (all (λ v. ltb v n) us) t))))
        (expand us (both_right (ltb u n) (all (λ v. ltb v n) us) t))

-- ---- the places of a word of bits
length_sum : (vs : List ℕ) → length vs ≡ sum_l vs (λ v. 1)
length_sum [] = refl
length_sum (v ∷ vs) = omega (arith, length_sum vs)

pub ones_below : (n m : ℕ) (f : ℕ → ℕ) → n ≤ m → T (all (λ v. ltb v m) (ones n f))
unfolding ones
ones_below zero m f h = tt
ones_below (suc n) m f h = go (eqb (f n) 0) (ones_below n m f (omega arith))
  where
    go : (x : Bool) → T (all (λ v. ltb v m) (ones n f)) → T (all (λ v. ltb v m) (pick x (ones n f) (n ∷ ones n f)))
    go true ih = ih
    go false ih = rw (lt-ltb n m (omega arith)) ih

module _ (f : ℕ → ℕ) (bits : (v : ℕ) → f v < 2) where
  pub sum_ones : (n : ℕ) (w : ℕ → ℕ) → sum_l (ones n f) w ≡ sum_n n (λ v. f v * w v)
  unfolding ones
  sum_ones zero w = refl
  sum_ones (suc n) w = go (f n) (bits n) (sum_ones n w)
    where
      go : (m : ℕ) → m < 2 → sum_l (ones n f) w ≡ sum_n n (λ v. f v * w v)
          → sum_l (pick (eqb m 0) (ones n f) (n ∷ ones n f)) w ≡ sum_n n (λ v. f v * w v) + m * w n
      go zero h ih = omega (arith, ih, zero-mul (w n))
      go (suc zero) h ih = omega (arith, ih, one-mul (w n))
      go (suc (suc m)) h ih = absurd (omega arith)

  pub length_ones : (n : ℕ) → length (ones n f) ≡ sum_n n f
  length_ones n = length_sum (ones n f) ∙ sum_ones n (λ v. 1) ∙ sum_n_ext n (λ v. f v * 1) f (λ v h. mul-one (f v))

  -- the word is the sum of the words of one bit at its places
  pub ones_at : (n v : ℕ) → v < n → f v ≡ sum_l (ones n f) (λ x. delta x v)
  ones_at n v h = sym (sum_ones n (λ x. delta x v) ∙ sum_delta f v n h)
