-- Lists that are counted up, and lists put together from lists. Assumes nothing.
use mathlib.Core.Bool.{Bool, true, false}
use mathlib.Core.List.{List, [], ◌∷◌, ◌++◌, map, append_assoc, flat_map, head-eq_of_cons-eq, tail-eq_of_cons-eq}
use mathlib.Core.Path.{◌≡◌, refl, sym, ap, ◌∙◌}
use Prim.Native.Nat.{ℕ, zero, suc, ◌+◌, ◌-◌, ◌*◌, ◌≤◌, ◌<◌}
use native.Mathlib.Nat.{add-zero, zero-add, add-suc, suc-add, suc-mul, zero-mul, le_refl, le_of_suc-le-suc, not-suc-le-zero}
use native.Mathlib.Numerals.{add-one}
use native.Mathlib.Omega.{arith}
use lib.Dec.{T}
use lib.ListN.{length, get_or, length-append}
use Rattle.maths.specs.Tests.{pick, all}
use Rattle.maths.specs.Lists.{span, fold, keep}
use Rattle.maths.proofs.Tests.{both_left, both_right, both_make, true_T}

module _ {A : Type 0} where
  -- a span is the spans of its two parts
  pub span_split : (f : ℕ → A) (s m n : ℕ) → span f s (m + n) ≡ span f s m ++ span f (s + m) n
  unfolding span
  span_split f s zero n = rw (zero-add, add-zero)
  span_split f s (suc m) n = rw (suc-add, span_split f (suc s) m n, suc-add, add-suc)

  -- two spans with the same elements
  pub span_ext : (f g : ℕ → A) (s u n : ℕ) → ((k : ℕ) → k < n → f (s + k) ≡ g (u + k)) → span f s n ≡ span g u n
  unfolding span
  span_ext f g s u zero h = refl
  span_ext f g s u (suc n) h =
      let a = rw (add-zero s, add-zero u) at (h zero (omega arith)) in
      rw (a, span_ext f g (suc s) (suc u) n (λ k l. rw (suc-add s k, ← add-suc s k, suc-add u k, ← add-suc u k) (h (suc k) (omega arith))))

  pub span_length : (f : ℕ → A) (s n : ℕ) → length (span f s n) ≡ n
  unfolding span
  span_length f s zero = refl
  span_length f s (suc n) = ap suc (span_length f (suc s) n)

  -- its first element and the rest
  pub span_first : (f : ℕ → A) (s n m : ℕ) → n ≡ suc m → span f s n ≡ f s ∷ span f (suc s) m
  unfolding span
  span_first f s n m e = rw e

  pub span_none : (f : ℕ → A) (s n : ℕ) → n ≡ 0 → span f s n ≡ []
  unfolding span
  span_none f s n e = rw e

  pub get_d_span : (f : ℕ → A) (s n i : ℕ) (d : A) → i < n → get_or (span f s n) i d ≡ f (s + i)
  unfolding span
  get_d_span f s zero i d h = absurd (not-suc-le-zero h)
  get_d_span f s (suc n) zero d h = ap f (sym (add-zero s))
  get_d_span f s (suc n) (suc i) d h = get_d_span f (suc s) n i d (le_of_suc-le-suc h) ∙ ap f (suc-add s i ∙ sym (add-suc s i))

  pub map_span : {B : Type 0} (f : ℕ → A) (h : A → B) (s n : ℕ) → map h (span f s n) ≡ span (λ t. h (f t)) s n
  unfolding span
  map_span f h s zero = refl
  map_span {B} f h s (suc n) = ap {B = List B} (λ l. h (f s) ∷ l) (map_span f h (suc s) n)

  -- spans that are the same list have the same elements
  span_at : (f g : ℕ → A) (s n : ℕ) → span f s n ≡ span g s n → (k : ℕ) → k < n → f (s + k) ≡ g (s + k)
  unfolding span
  span_at f g s zero e k l = absurd (not-suc-le-zero l)
  span_at f g s (suc n) e zero l = rw add-zero (head-eq_of_cons-eq e)
  span_at f g s (suc n) e (suc k) l =
      rw (add-suc s k, ← suc-add s k) (span_at f g (suc s) n (tail-eq_of_cons-eq e) k (le_of_suc-le-suc l))

  pub span_same : (f g : ℕ → A) (n : ℕ) → span f 0 n ≡ span g 0 n → (k : ℕ) → k < n → f k ≡ g k
  span_same f g n e k l = rw zero-add at (span_at f g 0 n e k l)

-- and so have tables by three numbers
pub table_same : {A : Type 0} (f g : ℕ → ℕ → ℕ → A) (l m n : ℕ)
    → span (λ i. span (λ j. span (f i j) 0 n) 0 m) 0 l ≡ span (λ i. span (λ j. span (g i j) 0 n) 0 m) 0 l
    → (i j k : ℕ) → i < l → j < m → k < n → f i j k ≡ g i j k
table_same f g l m n e i j k hi hj hk =
    let a = span_same (λ i. span (λ j. span (f i j) 0 n) 0 m) (λ i. span (λ j. span (g i j) 0 n) 0 m) l e i hi in
    let b = span_same (λ j. span (f i j) 0 n) (λ j. span (g i j) 0 n) m a j hj in
    span_same (f i j) (g i j) n b k hk

-- the test holds of what is kept
pub keep_holds : {A : Type 0} (f : A → Bool) (xs : List A) → T (all f (keep f xs))
keep_holds f [] = tt
keep_holds f (x ∷ xs) = go (f x) refl (keep_holds f xs)
  where
    go : (b : Bool) → f x ≡ b → T (all f (keep f xs)) → T (all f (pick b (x ∷ keep f xs) (keep f xs)))
    go true e t = both_make (f x) (all f (keep f xs)) (true_T (f x) e) t
    go false e t = t

-- a test of what is kept, by one of all
pub all_kept : {A B : Type 0} (f p : A → Bool) (h : A → B) (g : B → Bool) (xs : List A) → T (all f xs) → ((x : A) → T (f x) → T (g (h x)))
    → T (all g (map h (keep p xs)))
all_kept f p h g [] t k = tt
all_kept f p h g (x ∷ xs) t k = go (p x) (all_kept f p h g xs (both_right (f x) (all f xs) t) k)
  where
    go : (b : Bool) → T (all g (map h (keep p xs))) → T (all g (map h (pick b (x ∷ keep p xs) (keep p xs))))
    go true ih = both_make (g (h x)) (all g (map h (keep p xs))) (k x (both_left (f x) (all f xs) t)) ih
    go false ih = ih

pub keep_nothing : {A : Type 0} (f p : A → Bool) (xs : List A) → T (all f xs) → ((x : A) → T (f x) → p x ≡ false) → keep p xs ≡ []
keep_nothing f p [] t k = refl
keep_nothing f p (x ∷ xs) t k = rw (k x (both_left (f x) (all f xs) t)) (keep_nothing f p xs (both_right (f x) (all f xs) t) k)

-- what is kept of an image is the image of what is kept
pub keep_map : {A B : Type 0} (f : B → Bool) (h : A → B) (xs : List A) → keep f (map h xs) ≡ map h (keep (λ x. f (h x)) xs)
keep_map f h [] = refl
keep_map {A} f h (x ∷ xs) = rw (keep_map f h xs) (go (f (h x)))
  where
    kept : List A
    kept = keep (λ x. f (h x)) xs

    go : (y : Bool) → pick y (h x ∷ map h kept) (map h kept) ≡ map h (pick y (x ∷ kept) kept)
    go true = refl
    go false = refl

-- a test that holds of every element keeps them all
pub keep_all : {A : Type 0} (f : A → Bool) (xs : List A) → T (all f xs) → keep f xs ≡ xs
keep_all f [] t = refl
keep_all f (x ∷ xs) t = go (f x) (both_left (f x) (all f xs) t) (keep_all f xs (both_right (f x) (all f xs) t))
  where
    go : (b : Bool) → T b → keep f xs ≡ xs → pick b (x ∷ keep f xs) (keep f xs) ≡ x ∷ xs
    go true s ih = rw ih
    go false s ih = absurd s

module _ {A B : Type 0} where
  -- two functions that are the same where a test holds, as it does of every element
  pub flat_map_ext : (test : A → Bool) (f g : A → List B) (xs : List A) → T (all test xs)
      → ((x : A) → T (test x) → f x ≡ g x) → flat_map f xs ≡ flat_map g xs
  unfolding flat_map
  flat_map_ext test f g [] t h = refl
  flat_map_ext test f g (x ∷ xs) t h =
      rw (h x (both_left (test x) (all test xs) t), flat_map_ext test f g xs (both_right (test x) (all test xs) t) h)

  pub flat_map_cons : (f : A → List B) (x : A) (xs : List A) → flat_map f (x ∷ xs) ≡ f x ++ flat_map f xs
  unfolding flat_map
  flat_map_cons f x xs = refl

  pub flat_map_nil : (f : A → List B) → flat_map f [] ≡ []
  unfolding flat_map
  flat_map_nil f = refl

  pub flat_map_append : (f : A → List B) (xs ys : List A) → flat_map f (xs ++ ys) ≡ flat_map f xs ++ flat_map f ys
  unfolding flat_map
  flat_map_append f [] ys = refl
  flat_map_append f (x ∷ xs) ys = rw (flat_map_append f xs ys, append_assoc)

  -- lists of one length
  pub flat_map_length : (f : A → List B) (n : ℕ) (xs : List A) → ((x : A) → length (f x) ≡ n)
      → length (flat_map f xs) ≡ length xs * n
  unfolding flat_map
  flat_map_length f n [] h = omega arith
  flat_map_length f n (x ∷ xs) h =
      omega (arith, length-append (f x) (flat_map f xs), h x, flat_map_length f n xs h, suc-mul (length xs) n)

  -- pieces of length b, one after the other
  pub flat_map_span : (F : A → List B) (f : ℕ → A) (g : ℕ → B) (b s u : ℕ)
      → ((j : ℕ) → u ≤ j → j < u + s → F (f j) ≡ span g (j * b) b) → flat_map F (span f u s) ≡ span g (u * b) (s * b)
  unfolding flat_map span
  flat_map_span F f g b zero u h = rw zero-mul
  flat_map_span F f g b (suc s) u h =
      let e : suc s * b ≡ b + s * b = omega (arith, suc-mul s b) in
      let next = flat_map_span F f g b s (suc u) (λ j l m. h j (omega arith) (omega arith)) in
      rw (h u (le_refl u) (omega arith), next, suc-mul u b, e, span_split g (u * b) b (s * b))

pub flat_map_flat_map : {A B C : Type 0} (g : B → List C) (f : A → List B) (xs : List A)
    → flat_map g (flat_map f xs) ≡ flat_map (λ x. flat_map g (f x)) xs
unfolding flat_map
flat_map_flat_map g f [] = refl
flat_map_flat_map g f (x ∷ xs) = rw (flat_map_append g (f x) (flat_map f xs), flat_map_flat_map g f xs)

-- folds: over two lists, over a span from its first element on, and over what is left of it
module _ {A S : Type 0} (step : A → S → S) where
  pub fold_append : (xs ys : List A) (s : S) → fold step (xs ++ ys) s ≡ fold step ys (fold step xs s)
  unfolding fold
  fold_append [] ys s = refl
  fold_append (x ∷ xs) ys s = fold_append xs ys (step x s)

  -- a loop over a span, at turn i of n: inv says that folding what is left over the present state gives all
  module _ (f : ℕ → A) (n i : ℕ) (s : S) {all : S} (inv : fold step (span f i (n - i)) s ≡ all) where
    pub span_turn : {s' : S} → i < n → s' ≡ step (f i) s → fold step (span f (i + 1) (n - (i + 1))) s' ≡ all
    unfolding fold span
    span_turn h t =
        let e : n - i ≡ suc (n - (i + 1)) = omega arith in
        rw (add-one i, t) (rw (e, add-one) at inv)

    pub span_end : n ≤ i → s ≡ all
    unfolding fold span
    span_end h =
        let e : n - i ≡ 0 = omega arith in
        rw e at inv
