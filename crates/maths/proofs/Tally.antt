-- Laws of the elements of a list that pass a test, and of their number. Assumes nothing.
use mathlib.Core.Bool.{Bool, true, false, not}
use mathlib.Core.List.{List, [], ◌∷◌, ◌++◌, map, flat_map}
use mathlib.Core.Logic.{◌≢◌}
use mathlib.Core.Path.{◌≡◌, refl, ap}
use Prim.Native.Nat.{ℕ, zero, suc, ◌+◌, ◌≤◌, ◌<◌}
use native.Mathlib.Nat.{zero-add, le_refl}
use native.Mathlib.Decide.{ℕ_discrete}
use native.Mathlib.Omega.{arith}
use lib.Dec.{T, T_not, eqb}
use Rattle.maths.specs.Tests.{pick, both, all}
use Rattle.maths.specs.Lists.{span, keep}
use Rattle.maths.specs.Sums.{sum_l}
use Rattle.maths.specs.Ones.{delta}
use Rattle.maths.specs.Tally.{tally, apart}
use Rattle.maths.proofs.Tests.{both_left, both_right}

module _ {A : Type 0} (f : A → Bool) where
  keep_append : (xs ys : List A) → keep f (xs ++ ys) ≡ keep f xs ++ keep f ys
  keep_append [] ys = refl
  keep_append (x ∷ xs) ys = rw (keep_append xs ys) (go (f x))
    where
      go : (b : Bool) → pick b (x ∷ (keep f xs ++ keep f ys)) (keep f xs ++ keep f ys) ≡ pick b (x ∷ keep f xs) (keep f xs) ++ keep f ys
      go true = refl
      go false = refl

  -- elements counted up, of which none passes,
  keep_none : (e : ℕ → A) (s n : ℕ) → ((i : ℕ) → s ≤ i → i < s + n → f (e i) ≡ false) → keep f (span e s n) ≡ []
  unfolding span
  keep_none e s zero h = refl
  keep_none e s (suc n) h =
      rw (h s (le_refl s) (omega arith)) (keep_none e (suc s) n (λ i l m. h i (omega arith) (omega arith)))

  -- or none but the k-th
  pub keep_one : (e : ℕ → A) (s n k : ℕ) → s ≤ k → k < s + n → ((i : ℕ) → i < s + n → i ≢ k → f (e i) ≡ false)
      → keep f (span e s n) ≡ pick (f (e k)) (e k ∷ []) []
  unfolding span
  keep_one e s zero k l m h = absurd (omega arith)
  keep_one e s (suc n) k l m h = go (ℕ_discrete s k) (λ a. keep_one e (suc s) n k a (omega arith) (λ i b. h i (omega arith)))
    where
      go : Dec (s ≡ k) → (suc s ≤ k → keep f (span e (suc s) n) ≡ pick (f (e k)) (e k ∷ []) [])
          → pick (f (e s)) (e s ∷ keep f (span e (suc s) n)) (keep f (span e (suc s) n)) ≡ pick (f (e k)) (e k ∷ []) []
      go (yes p) next = rw (p, keep_none e (suc k) n (λ i a b. h i (omega arith) (λ q. omega arith)))
      go (no p) next = rw (h s (omega arith) p) (next (omega arith))

  -- of lists put together, each of which has the one element h x to keep, or none
  pub keep_flat : {B : Type 0} (F : B → List A) (g : B → Bool) (h : B → A) (xs : List B)
      → ((x : B) → keep f (F x) ≡ pick (g x) (h x ∷ []) []) → keep f (flat_map F xs) ≡ map h (keep g xs)
  unfolding flat_map
  keep_flat F g h [] one = refl
  keep_flat F g h (x ∷ xs) one = rw (keep_append (F x) (flat_map F xs), one x, keep_flat F g h xs one) (go (g x))
    where
      go : (b : Bool) → pick b (h x ∷ []) [] ++ map h (keep g xs) ≡ map h (pick b (x ∷ keep g xs) (keep g xs))
      go true = refl
      go false = refl

  -- a test that fails wherever another holds
  tally_none : (g : A → Bool) (xs : List A) → T (all g xs) → ((x : A) → T (g x) → f x ≡ false) → tally f xs ≡ 0
  tally_none g [] t h = refl
  tally_none g (x ∷ xs) t h =
      rw (h x (both_left (g x) (all g xs) t), tally_none g xs (both_right (g x) (all g xs) t) h)

  -- two tests, one after the other
  pub tally_keep : (g : A → Bool) (xs : List A) → tally (λ x. both (f x) (g x)) xs ≡ tally g (keep f xs)
  tally_keep g [] = refl
  tally_keep g (x ∷ xs) = rw (tally_keep g xs) (go (f x))
    where
      go : (b : Bool) → pick (both b (g x)) 1 0 + tally g (keep f xs) ≡ tally g (pick b (x ∷ keep f xs) (keep f xs))
      go true = refl
      go false = rw zero-add

  -- where no two elements are alike, at most one passes a test that only likes pass
  pub tally_once : (like : A → A → Bool) (xs : List A) → T (apart like xs) → ((x y : A) → T (f x) → T (f y) → T (like x y)) → tally f xs ≤ 1
  tally_once like [] t h = omega arith
  tally_once like (x ∷ xs) t h =
      let others = both_left (all (λ y. not (like x y)) xs) (apart like xs) t in
      let next = tally_once like xs (both_right (all (λ y. not (like x y)) xs) (apart like xs) t) h in
      go (f x) refl others next
    where
      go : (b : Bool) → f x ≡ b → T (all (λ y. not (like x y)) xs) → tally f xs ≤ 1 → pick b 1 0 + tally f xs ≤ 1
      go true e t n = omega (arith, tally_none (λ y. not (like x y)) xs t (λ y u. unlike y (f y) refl u))
        where
          unlike : (y : A) (b : Bool) → f y ≡ b → T (not (like x y)) → f y ≡ false
          unlike y true g u = absurd (T_not (like x y) u (h x y (rw e tt) (rw g tt)))
          unlike y false g u = g
      go false e t n = omega arith

-- a test that nothing passes
pub tally_false : {A : Type 0} (xs : List A) → tally (λ x. false) xs ≡ 0
tally_false [] = refl
tally_false (x ∷ xs) = omega (arith, tally_false xs)

-- the sum over numbers of the word with the one bit v: how many of them are v
pub sum_tally : {A : Type 0} (h : A → ℕ) (xs : List A) (v : ℕ) → sum_l (map h xs) (delta v) ≡ tally (λ x. eqb (h x) v) xs
sum_tally h [] v = refl
sum_tally h (x ∷ xs) v = ap (λ (n : ℕ). delta v (h x) + n) (sum_tally h xs v)
