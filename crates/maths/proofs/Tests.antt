-- What a test that is computed over a whole list, or over every number below a bound, says at each place. Assumes nothing.
use mathlib.Core.Bool.{Bool, true, false}
use mathlib.Core.Logic.{⊎_elim}
use mathlib.Core.Path.{◌≡◌, refl, sym, ◌∙◌, subst}
use mathlib.Core.List.{List, [], ◌∷◌, ◌++◌, flat_map}
use Prim.Native.Nat.{ℕ, zero, suc, ◌+◌, ◌<◌}
use native.Mathlib.Nat.{add-zero, add-suc, suc-add, le_of_suc-le-suc, not-suc-le-zero, eq-or-lt_of_le}
use native.Mathlib.Decide.{ℕ_discrete}
use native.Mathlib.Omega.{arith}
use lib.Dec.{T, eqb, eqb→eq}
use lib.ListN.{length, get_or}
use borrow.Author.Tests.{ne_eqb}
use Rattle.maths.specs.Tests.{pick, both, all, below, Agrees}
use Rattle.maths.specs.Lists.{span}

-- no test is false and true
pub never : {b : Bool} → b ≡ false → b ≡ true → ⊥
never f t = let z : ◌≡◌ {A = ℕ} 0 1 = cc in omega arith

pub both_left : (a b : Bool) → T (both a b) → T a
both_left true b t = tt
both_left false b t = t

pub both_right : (a b : Bool) → T (both a b) → T b
both_right true b t = t
both_right false b t = absurd t

pub both_make : (a b : Bool) → T a → T b → T (both a b)
both_make true b s t = t
both_make false b s t = absurd s

pub both_first : (a b : Bool) → both a b ≡ true → a ≡ true
both_first true b e = refl
both_first false b e = e

pub both_second : (a b : Bool) → both a b ≡ true → b ≡ true
both_second true b e = e
both_second false b e = absurd (never refl e)

pub both_true : (a : Bool) → both a true ≡ a
both_true true = refl
both_true false = refl

pub both_false : (a : Bool) → both a false ≡ false
both_false true = refl
both_false false = refl

pub both_swap : (a b c : Bool) → both a (both b c) ≡ both b (both a c)
both_swap true true c = refl
both_swap true false c = refl
both_swap false true c = refl
both_swap false false c = refl

pub eqb_swap : (x y : ℕ) → eqb x y ≡ eqb y x
eqb_swap x y = go (ℕ_discrete x y)
  where
    go : Dec (x ≡ y) → eqb x y ≡ eqb y x
    go (yes e) = rw e
    go (no e) = ne_eqb x y e ∙ sym (ne_eqb y x (λ q. e (sym q)))

-- of the element at an index below the length
pub all_at : {A : Type 0} (f : A → Bool) (d : A) (xs : List A) → T (all f xs) → (k : ℕ) → k < length xs → T (f (get_or xs k d))
all_at f d [] t k h = absurd (not-suc-le-zero h)
all_at f d (x ∷ xs) t zero h = both_left (f x) (all f xs) t
all_at f d (x ∷ xs) t (suc k) h = all_at f d xs (both_right (f x) (all f xs) t) k (le_of_suc-le-suc h)

-- at any index, where the test holds of the default too
pub all_anywhere : {A : Type 0} (f : A → Bool) (d : A) → T (f d) → (xs : List A) → T (all f xs) → (k : ℕ) → T (f (get_or xs k d))
all_anywhere f d e [] t k = e
all_anywhere f d e (x ∷ xs) t zero = both_left (f x) (all f xs) t
all_anywhere f d e (x ∷ xs) t (suc k) = all_anywhere f d e xs (both_right (f x) (all f xs) t) k

pub below_at : (n : ℕ) (f : ℕ → Bool) → T (below n f) → (k : ℕ) → k < n → T (f k)
below_at zero f t k h = absurd (not-suc-le-zero h)
below_at (suc n) f t k h =
    ⊎_elim (λ (e : k ≡ n). subst (λ (j : ℕ). T (f j)) (sym e) (both_left (f n) (below n f) t))
    (λ (l : k < n). below_at n f (both_right (f n) (below n f) t) k l)
    (eq-or-lt_of_le (le_of_suc-le-suc h))

-- a computed equation at every number below a bound
pub below_eq : (n : ℕ) (f g : ℕ → ℕ) → T (below n (λ i. eqb (f i) (g i))) → (i : ℕ) → i < n → f i ≡ g i
below_eq n f g t i h = eqb→eq (f i) (g i) (below_at n (λ i. eqb (f i) (g i)) t i h)

pub T_true : (b : Bool) → T b → b ≡ true
T_true true t = refl
T_true false t = absurd t

pub true_T : (b : Bool) → b ≡ true → T b
true_T true e = tt
true_T false e = absurd (never refl e)

pub below_true : (n : ℕ) (f : ℕ → Bool) → below n f ≡ true → (k : ℕ) → k < n → f k ≡ true
below_true n f e k h = T_true (f k) (below_at n f (true_T (below n f) e) k h)

pub below_all : (n : ℕ) (f : ℕ → Bool) → ((k : ℕ) → k < n → f k ≡ true) → below n f ≡ true
below_all zero f h = refl
below_all (suc n) f h = rw (h n (omega arith)) (below_all n f (λ k l. h k (omega arith)))

-- two tests that agree at each number
pub below_same : (n : ℕ) (f g : ℕ → Bool) → ((k : ℕ) → k < n → f k ≡ g k) → below n f ≡ below n g
below_same zero f g h = refl
below_same (suc n) f g h = rw (h n (omega arith), below_same n f g (λ k l. h k (omega arith)))

-- ---- a test that tells exactly whether something is so
pub denies : {P : Type 0} → (P → ⊥) → Agrees false P
denies h = record { sound = λ e. absurd (never refl e); complete = λ p. absurd (h p) }

-- of an equal thing
pub agrees_by : {A : Type 0} {a b d : A} {r : Bool} → a ≡ b → (r ≡ true → a ≡ d) × (a ≡ d → r ≡ true) → Agrees r (b ≡ d)
agrees_by e g = record { sound = λ h. sym e ∙ g.0 h; complete = λ p. g.1 (e ∙ p) }

-- ---- what a test picks
-- a property of both is one of the picked
pub pick_both {ℓ} : {A : Type ℓ} (P : A → Type 0) (t : Bool) (a b : A) → P a → P b → P (pick t a b)
pick_both P true a b p q = p
pick_both P false a b p q = q

pub pick_same : {A : Type 0} (t : Bool) (x : A) → pick t x x ≡ x
pick_same true x = refl
pick_same false x = refl

-- a bit is what its test says
pub pick_bit : (x : ℕ) → x < 2 → pick (eqb x 1) 1 0 ≡ x
pick_bit zero h = refl
pick_bit (suc zero) h = refl
pick_bit (suc (suc x)) h = absurd (omega arith)

-- a test that is made of two, of every element
module _ {A : Type 0} (f g : A → Bool) where
  pub all_left : (xs : List A) → T (all (λ x. both (f x) (g x)) xs) → T (all f xs)
  all_left [] t = tt
  all_left (x ∷ xs) t =
      let h = all (λ y. both (f y) (g y)) xs in
      both_make (f x) (all f xs) (both_left (f x) (g x) (both_left (both (f x) (g x)) h t)) (all_left xs (both_right (both (f x) (g x)) h t))

pub all_append : {A : Type 0} (f : A → Bool) (xs ys : List A) → T (all f xs) → T (all f ys) → T (all f (xs ++ ys))
all_append f [] ys s t = t
all_append f (x ∷ xs) ys s t =
    both_make (f x) (all f (xs ++ ys)) (both_left (f x) (all f xs) s) (all_append f xs ys (both_right (f x) (all f xs) s) t)

-- of every element of a span, and of a list put together from lists
pub all_span : {A : Type 0} (f : A → Bool) (g : ℕ → A) (s n : ℕ) → ((k : ℕ) → k < n → T (f (g (s + k)))) → T (all f (span g s n))
unfolding span
all_span f g s zero h = tt
all_span f g s (suc n) h =
    both_make (f (g s)) (all f (span g (suc s) n)) (rw add-zero at (h zero (omega arith)))
    (all_span f g (suc s) n (λ k l. rw (suc-add s k, ← add-suc s k) (h (suc k) (omega arith))))

pub all_flat_map : {A B : Type 0} (f : A → Bool) (g : B → Bool) (h : A → List B) (xs : List A) → T (all f xs) → ((x : A) → T (f x) → T (all g (h x)))
    → T (all g (flat_map h xs))
unfolding flat_map
all_flat_map f g h [] t k = tt
all_flat_map f g h (x ∷ xs) t k =
    all_append g (h x) (flat_map h xs) (k x (both_left (f x) (all f xs) t)) (all_flat_map f g h xs (both_right (f x) (all f xs) t) k)
