-- Laws of sums of natural numbers, and of evenness. Assumes nothing.
use mathlib.Core.Bool.{Bool, true, false}
use mathlib.Core.Path.{◌≡◌, refl, sym, ap, ap₂, ◌∙◌}
use mathlib.Core.List.{List, [], ◌∷◌, ◌++◌}
use Prim.Native.Nat.{ℕ, zero, suc, ◌+◌, ◌*◌, ◌/◌, ◌%◌, ◌≤◌, ◌<◌}
use native.Mathlib.Nat.{add-zero, add-suc, mul-zero, mul-suc, zero-mul, suc-mul, mul-add, mul-mod_left, mul_assoc, le-suc, le_refl, le_trans, div-add-mod'}
use native.Mathlib.Omega.{arith}
use Rattle.maths.specs.Tests.{pick}
use Rattle.maths.specs.Lists.{keep}
use Rattle.maths.specs.Sums.{sum_l, sum_n, Even}

pub even_add : (a b : ℕ) → Even a → Even b → Even (a + b)
even_add a b p q = omega arith

pub even_mul : (d x : ℕ) → Even x → Even (d * x)
even_mul d x p =
    let h : x ≡ x / 2 * 2 = omega (arith, div-add-mod' x 2) in
    rw h (rw (← mul_assoc) (mul-mod_left (d * (x / 2)) 2))

-- a product modulo 2 reads a factor modulo 2
pub mul_mod : (x y z : ℕ) → x % 2 ≡ y % 2 → x * z % 2 ≡ y * z % 2
mul_mod x y zero h = rw (mul-zero x, mul-zero y)
mul_mod x y (suc z) h = omega (arith, mul-suc x z, mul-suc y z, mul_mod x y z h)

-- ---- over a list

pub sum_l_append : (us vs : List ℕ) (f : ℕ → ℕ) → sum_l (us ++ vs) f ≡ sum_l us f + sum_l vs f
sum_l_append [] vs f = omega arith
sum_l_append (u ∷ us) vs f = omega (arith, sum_l_append us vs f)

pub sum_l_add : (vs : List ℕ) (f g : ℕ → ℕ) → sum_l vs (λ v. f v + g v) ≡ sum_l vs f + sum_l vs g
sum_l_add [] f g = refl
sum_l_add (v ∷ vs) f g = omega (arith, sum_l_add vs f g)

pub sum_l_mul : (d : ℕ) (vs : List ℕ) (f : ℕ → ℕ) → sum_l vs (λ v. d * f v) ≡ d * sum_l vs f
sum_l_mul d [] f = sym (mul-zero d)
sum_l_mul d (v ∷ vs) f = ap (λ (x : ℕ). d * f v + x) (sum_l_mul d vs f) ∙ sym (mul-add d (f v) (sum_l vs f))

pub sum_l_zero : (vs : List ℕ) → sum_l vs (λ v. 0) ≡ 0
sum_l_zero [] = refl
sum_l_zero (v ∷ vs) = omega (arith, sum_l_zero vs)

-- the two sums change places
pub sum_l_sum_n : (n : ℕ) (vs : List ℕ) (f : ℕ → ℕ → ℕ) → sum_l vs (λ v. sum_n n (λ i. f i v)) ≡ sum_n n (λ i. sum_l vs (f i))
sum_l_sum_n zero vs f = sum_l_zero vs
sum_l_sum_n (suc n) vs f =
    sum_l_add vs (λ v. sum_n n (λ i. f i v)) (f n) ∙ ap (λ (x : ℕ). x + sum_l vs (f n)) (sum_l_sum_n n vs f)

-- the sum modulo 2 reads a word modulo 2
pub sum_l_mod : (vs : List ℕ) (f : ℕ → ℕ) → sum_l vs (λ v. f v % 2) % 2 ≡ sum_l vs f % 2
sum_l_mod [] f = refl
sum_l_mod (v ∷ vs) f = omega (arith, sum_l_mod vs f)

-- over the elements that pass a test, and over the others
pub sum_l_keep : (f : ℕ → Bool) (g : ℕ → ℕ) (vs : List ℕ) → sum_l vs (λ v. pick (f v) (g v) 0) ≡ sum_l (keep f vs) g
sum_l_keep f g [] = refl
sum_l_keep f g (v ∷ vs) = rw (sum_l_keep f g vs) (go (f v))
  where
    go : (x : Bool) → pick x (g v) 0 + sum_l (keep f vs) g ≡ sum_l (pick x (v ∷ keep f vs) (keep f vs)) g
    go true = refl
    go false = omega arith

pub sum_l_split : (f : ℕ → Bool) (g : ℕ → ℕ) (vs : List ℕ) → sum_l vs g ≡ sum_l vs (λ v. pick (f v) 0 (g v)) + sum_l vs (λ v. pick (f v) (g v) 0)
sum_l_split f g [] = refl
sum_l_split f g (v ∷ vs) = go (f v) (sum_l_split f g vs)
  where
    go : (x : Bool) → sum_l vs g ≡ sum_l vs (λ v. pick (f v) 0 (g v)) + sum_l vs (λ v. pick (f v) (g v) 0)
        → g v + sum_l vs g ≡ pick x 0 (g v) + sum_l vs (λ v. pick (f v) 0 (g v)) + (pick x (g v) 0 + sum_l vs (λ v. pick (f v) (g v) 0))
    go true ih = omega arith
    go false ih = omega arith

-- ---- over the numbers below a bound

pub even_sum_n : (n : ℕ) (f : ℕ → ℕ) → ((i : ℕ) → i < n → Even (f i)) → Even (sum_n n f)
even_sum_n zero f h = refl
even_sum_n (suc n) f h = even_add (sum_n n f) (f n) (even_sum_n n f (λ i l. h i (le_trans l (le-suc n)))) (h n (le_refl (suc n)))

pub sum_n_ext : (n : ℕ) (f g : ℕ → ℕ) → ((i : ℕ) → i < n → f i ≡ g i) → sum_n n f ≡ sum_n n g
sum_n_ext zero f g h = refl
sum_n_ext (suc n) f g h = ap₂ (λ (x y : ℕ). x + y) (sum_n_ext n f g (λ i l. h i (le_trans l (le-suc n)))) (h n (le_refl (suc n)))

pub sum_n_le : (n : ℕ) (f g : ℕ → ℕ) → ((i : ℕ) → i < n → f i ≤ g i) → sum_n n f ≤ sum_n n g
sum_n_le zero f g h = omega arith
sum_n_le (suc n) f g h = omega (arith, sum_n_le n f g (λ i l. h i (omega arith)), h n (omega arith))

pub sum_n_mod : (n : ℕ) (f g : ℕ → ℕ) → ((i : ℕ) → i < n → f i % 2 ≡ g i % 2) → sum_n n f % 2 ≡ sum_n n g % 2
sum_n_mod zero f g h = refl
sum_n_mod (suc n) f g h = omega (arith, sum_n_mod n f g (λ i l. h i (le_trans l (le-suc n))), h n (le_refl (suc n)))

pub sum_n_zero : (n : ℕ) → sum_n n (λ i. 0) ≡ 0
sum_n_zero zero = refl
sum_n_zero (suc n) = omega (arith, sum_n_zero n)

pub sum_n_add : (n : ℕ) (f g : ℕ → ℕ) → sum_n n (λ i. f i + g i) ≡ sum_n n f + sum_n n g
sum_n_add zero f g = refl
sum_n_add (suc n) f g = omega (arith, sum_n_add n f g)

-- a sum of m + n, and of m blocks of b
pub sum_n_mul : (d n : ℕ) (f : ℕ → ℕ) → sum_n n (λ i. d * f i) ≡ d * sum_n n f
sum_n_mul d zero f = sym (mul-zero d)
sum_n_mul d (suc n) f = ap (λ (x : ℕ). x + d * f n) (sum_n_mul d n f) ∙ sym (mul-add d (sum_n n f) (f n))

pub sum_n_plus : (m n : ℕ) (f : ℕ → ℕ) → sum_n (m + n) f ≡ sum_n m f + sum_n n (λ t. f (m + t))
sum_n_plus m zero f = rw (add-zero m) (sym (add-zero (sum_n m f)))
sum_n_plus m (suc n) f = rw add-suc (omega (arith, sum_n_plus m n f))

pub sum_n_blocks : (m b : ℕ) (f : ℕ → ℕ) → sum_n (m * b) f ≡ sum_n m (λ a. sum_n b (λ t. f (a * b + t)))
sum_n_blocks zero b f = rw (zero-mul b)
sum_n_blocks (suc m) b f =
    rw suc-mul (sum_n_plus (m * b) b f ∙ ap (λ (x : ℕ). x + sum_n b (λ t. f (m * b + t))) (sum_n_blocks m b f))

pub sum_n_front : (n : ℕ) (f : ℕ → ℕ) → sum_n (suc n) f ≡ sum_n n (λ t. f (suc t)) + f 0
sum_n_front zero f = refl
sum_n_front (suc n) f = omega (arith, sum_n_front n f)
