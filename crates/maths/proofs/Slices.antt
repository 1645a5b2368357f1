-- A list that a loop reads or rewrites from its first element on, and its largest number. Assumes nothing.
use mathlib.Core.List.{List, [], ◌∷◌, ◌++◌, map, append-nil, append_assoc}
use mathlib.Core.Path.{◌≡◌, refl, sym, ap, ◌∙◌, subst, fun_ext}
use Prim.Native.Nat.{ℕ, zero, suc, ◌+◌, ◌-◌, ◌≤◌, ◌<◌, max}
use native.Mathlib.Nat.{add-zero, zero-add, max-zero, le_of_suc-le-suc, not-suc-le-zero}
use native.Mathlib.Numerals.{add-one}
use native.Mathlib.Decide.{dec_lt}
use native.Mathlib.Omega.{arith}
use borrow.Author.Tests.{ne_eqb}
use lib.Dec.{eqb, eqb-suc-zero}
use lib.ListN.{length, get_or, set, take, drop, replicate, length-append, length-drop, length-replicate, get_or-replicate, drop_of_length-le, get_or-append, get_or-eq_default}
use lib.Seq.{sets, drop-cons, set_at, set-get_or, get_or_at, get_or-append-add, ext_get_or, length-take-le}
use Rattle.maths.specs.Tests.{both, below}
use Rattle.maths.specs.Lists.{span, fold, largest_of, overwrite}
use Rattle.maths.proofs.Lists.{span_split, span_length, get_d_span, map_span}

-- ---- what stands in a span
pub span_get : {A : Type 0} (f : ℕ → A) (d : A) (n i : ℕ) → i < n → get_or (span f 0 n) i d ≡ f i
span_get f d n i h = get_d_span f 0 n i d h ∙ rw zero-add

-- what holds of each f i and of d holds of all that is read of it, past its end too
pub span_each : {A : Type 0} (P : A → Type 0) (f : ℕ → A) (d : A) (n : ℕ) → ((i : ℕ) → P (f i)) → P d → (i : ℕ) → P (get_or (span f 0 n) i d)
span_each P f d n each past i = by (dec_lt i n)
  where
    by : Dec (i < n) → P (get_or (span f 0 n) i d)
    by (yes h) = rw (span_get f d n i h) (each i)
    by (no h) = let l : length (span f 0 n) ≤ i = rw (span_length f 0 n) (omega arith) in rw (get_or-eq_default (span f 0 n) d l) past

-- and past its end, where f is 0
pub span_whole : (f : ℕ → ℕ) (n : ℕ) → ((v : ℕ) → n ≤ v → f v ≡ 0) → (λ v. get_or (span f 0 n) v 0) ≡ f
span_whole f n past = fun_ext (λ v. at v (dec_lt v n))
  where
    at : (v : ℕ) → Dec (v < n) → get_or (span f 0 n) v 0 ≡ f v
    at v (yes h) = span_get f 0 n v h
    at v (no h) = get_or-eq_default (span f 0 n) 0 (omega (arith, span_length f 0 n)) ∙ sym (past v (omega arith))

-- a list with these elements
pub span_is : {A : Type 0} (d : A) (l : List A) (f : ℕ → A) (n : ℕ) → length l ≡ n → ((i : ℕ) → i < n → get_or l i d ≡ f i) → l ≡ span f 0 n
span_is d l f n e h =
    ext_get_or d l (span f 0 n) (e ∙ sym (span_length f 0 n)) (λ i k. let j : i < n = omega arith in h i j ∙ sym (span_get f d n i j))

pub span_again : {A : Type 0} (d : A) (l : List A) → span (λ i. get_or l i d) 0 (length l) ≡ l
span_again d l = sym (span_is d l (λ i. get_or l i d) (length l) refl (λ i h. refl))

-- a list read past its end
pub span_padded : (l : List ℕ) (n : ℕ) → length l ≤ n → span (λ i. get_or l i 0) 0 n ≡ l ++ replicate (n - length l) 0
span_padded l n h = sym (span_is 0 (l ++ zeros) (λ i. get_or l i 0) n (length-append l zeros ∙ omega (arith, length-replicate {A = ℕ} (n - length l) 0)) at)
  where
    zeros : List ℕ
    zeros = replicate (n - length l) 0

    at : (i : ℕ) → i < n → get_or (l ++ zeros) i 0 ≡ get_or l i 0
    at i k = by (dec_lt i (length l))
      where
        by : Dec (i < length l) → get_or (l ++ zeros) i 0 ≡ get_or l i 0
        by (yes g) = get_or-append l zeros 0 i g
        by (no g) =
            let e : length l + (i - length l) ≡ i = omega arith in
            rw (← e) (get_or-append-add l zeros (i - length l) 0 ∙ get_or-replicate {A = ℕ} (n - length l) (i - length l) 0 0 (omega arith))
            ∙ sym (get_or-eq_default l 0 (omega arith))

pub span_map : {A B : Type 0} (d : A) (g : A → B) (l : List A) → span (λ i. g (get_or l i d)) 0 (length l) ≡ map g l
span_map d g l = sym (map_span (λ i. get_or l i d) g 0 (length l)) ∙ ap (map g) (span_again d l)

-- a list of one element many times, read past its end too
pub replicate_at : {A : Type 0} (n : ℕ) (x : A) (i : ℕ) → get_or (replicate n x) i x ≡ x
replicate_at zero x i = refl
replicate_at (suc n) x zero = refl
replicate_at (suc n) x (suc i) = replicate_at n x i

-- behind another list it does not show
pub padded_at : {A : Type 0} (xs : List A) (n : ℕ) (x : A) (i : ℕ) → get_or (xs ++ replicate n x) i x ≡ get_or xs i x
padded_at [] n x i = replicate_at n x i
padded_at (y ∷ xs) n x zero = refl
padded_at (y ∷ xs) n x (suc i) = padded_at xs n x i

pub replicate_front : {A : Type 0} (k : ℕ) (x : A) (n : ℕ) → n ≤ k → take n (replicate k x) ≡ replicate n x
replicate_front k x zero h = refl
replicate_front zero x (suc n) h = absurd (not-suc-le-zero h)
replicate_front (suc k) x (suc n) h = ap (λ (xs : List _). x ∷ xs) (replicate_front k x n (le_of_suc-le-suc h))

-- what is lent of a buffer from its front is as long as was asked for, and of one that is full of one value
pub lent_long : {A : Type 0} (n : ℕ) (w : List A) → n ≤ length w → n ≡ length (take n w)
lent_long n w h = sym (length-take-le n w h)

pub lent_full : {A : Type 0} (k : ℕ) (x : A) (n : ℕ) → n ≤ k → n ≡ length (take n (replicate k x))
lent_full k x n h = lent_long n (replicate k x) (rw (length-replicate k x) h)

pub span_one : {A : Type 0} (x : A) (s n : ℕ) → span (λ i. x) s n ≡ replicate n x
unfolding span
span_one x s zero = refl
span_one x s (suc n) = ap (λ (l : List _). x ∷ l) (span_one x (suc s) n)

-- its last element
span_more : {A : Type 0} (f : ℕ → A) (k : ℕ) → span f 0 (suc k) ≡ span f 0 k ++ (f k ∷ [])
unfolding span
span_more f k = ap (span f 0) (sym (add-one k)) ∙ span_split f 0 k 1 ∙ rw zero-add

-- ---- a list that is overwritten from its first element on
module _ {A : Type 0} (f : ℕ → A) (d : List A) where
  pub overwrite_none : d ≡ overwrite f 0 d
  unfolding span
  overwrite_none = refl

  pub overwrite_length : (k : ℕ) → k ≤ length d → length (overwrite f k d) ≡ length d
  overwrite_length k h = length-append (span f 0 k) (drop k d) ∙ omega (arith, span_length f 0 k, length-drop k d)

  -- the element at k is not yet overwritten
  pub overwrite_next : (x : A) (k : ℕ) → k < length d → get_or (overwrite f k d) k x ≡ get_or d k x
  overwrite_next x k h = rw (drop-cons d k x h) (get_or_at (span f 0 k) (get_or d k x) (drop (suc k) d) x k (span_length f 0 k))

  pub overwrite_at : (x : A) (k i : ℕ) → i < k → get_or (overwrite f k d) i x ≡ f i
  overwrite_at x k i h = get_or-append (span f 0 k) (drop k d) x i (rw (span_length f 0 k) h) ∙ span_get f x k i h

  pub overwrite_set : (k : ℕ) → k < length d → set (overwrite f k d) k (f k) ≡ overwrite f (suc k) d
  overwrite_set k h =
      rw (drop-cons d k (f k) h, span_more f k)
      (set_at (span f 0 k) (get_or d k (f k)) (drop (suc k) d) (f k) k (span_length f 0 k) ∙ sym (append_assoc (span f 0 k) (f k ∷ []) (drop (suc k) d)))

  -- by what stands there
  pub overwrite_same : (x : A) (k : ℕ) → k ≤ length d → ((i : ℕ) → i < k → f i ≡ get_or d i x) → d ≡ overwrite f k d
  overwrite_same x zero g h = overwrite_none
  overwrite_same x (suc k) g h =
      let e = overwrite_same x k (omega arith) (λ i l. h i (omega arith)) in
      sym (set-get_or d k x) ∙ ap (λ (l : List A). set l k (get_or d k x)) e ∙ rw (← h k (omega arith)) (overwrite_set k (omega arith))

  pub overwrite_more : (k : ℕ) {l : List A} {v : A} → l ≡ overwrite f k d → k < length d → v ≡ f k → set l k v ≡ overwrite f (k + 1) d
  overwrite_more k inv h e = rw (inv, e, add-one k) (overwrite_set k h)

  pub overwrite_sets : (n k : ℕ) → k + n ≤ length d → sets (overwrite f k d) k (span f k n) ≡ overwrite f (k + n) d
  unfolding span
  overwrite_sets zero k h = rw add-zero
  overwrite_sets (suc n) k h =
      ap (λ (l : List A). sets l (suc k) (span f (suc k) n)) (overwrite_set k (omega arith))
      ∙ overwrite_sets n (suc k) (omega arith)
      ∙ ap (λ (j : ℕ). overwrite f j d) (let e : suc k + n ≡ k + suc n = omega arith in e)

  pub overwrite_all : (k : ℕ) {l : List A} → l ≡ overwrite f k d → k ≤ length d → length d ≤ k → l ≡ span f 0 (length d)
  overwrite_all k inv g h =
      let e : k ≡ length d = omega arith in
      inv ∙ rw (drop_of_length-le d h, e) (append-nil (span f 0 (length d)))

-- ---- a loop that folds a list from its first element on: inv says that folding what is left over the present state gives all
module _ {A S : Type 0} (step : A → S → S) (xs : List A) (d : A) (i : ℕ) (s : S) {all : S} (inv : fold step (drop i xs) s ≡ all) where
  pub fold_turn : {s' : S} → i < length xs → s' ≡ step (get_or xs i d) s → fold step (drop (i + 1) xs) s' ≡ all
  unfolding fold
  fold_turn h e = rw (add-one i, e) (rw (drop-cons xs i d) at inv)

  pub fold_end : length xs ≤ i → s ≡ all
  unfolding fold
  fold_end h = rw (drop_of_length-le xs h) at inv

-- ---- the largest number of a list
pub largest_turn : (w : List ℕ) (i t : ℕ) {all : ℕ} → max t (largest_of (drop i w)) ≡ all → i < length w → {t' : ℕ} → t' ≡ max t (get_or w i 0)
    → max t' (largest_of (drop (i + 1) w)) ≡ all
unfolding largest_of
largest_turn w i t inv h e = rw (add-one i, e) (omega (arith, rw (drop-cons w i 0) at inv))

pub largest_end : (w : List ℕ) (i t : ℕ) {all : ℕ} → max t (largest_of (drop i w)) ≡ all → length w ≤ i → t ≡ all
unfolding largest_of
largest_end w i t inv h = omega (arith, rw (drop_of_length-le w h) at inv)

largest_last : (xs : List ℕ) (x : ℕ) → largest_of (xs ++ (x ∷ [])) ≡ max (largest_of xs) x
unfolding largest_of
largest_last [] x = omega arith
largest_last (y ∷ xs) x = omega (arith, largest_last xs x)

-- it is 0 if each of them is
pub max_none : (a b : ℕ) → eqb (max a b) 0 ≡ both (eqb b 0) (eqb a 0)
max_none a zero = rw max-zero
max_none a (suc b) = rw (eqb-suc-zero b) (ne_eqb (max a (suc b)) 0 (λ e. omega arith))

pub largest_none : (f : ℕ → ℕ) (n : ℕ) → eqb (largest_of (span f 0 n)) 0 ≡ below n (λ i. eqb (f i) 0)
unfolding span largest_of
largest_none f zero = refl
largest_none f (suc n) =
    ap (λ (l : List ℕ). eqb (largest_of l) 0) (span_more f n) ∙ ap (λ (t : ℕ). eqb t 0) (largest_last (span f 0 n) (f n))
    ∙ max_none (largest_of (span f 0 n)) (f n) ∙ ap (both (eqb (f n) 0)) (largest_none f n)

-- the largest of some numbers is one of them, and none is larger
largest_bound : (f : ℕ → ℕ) (t s n : ℕ) → ((v : ℕ) → v < n → f (s + v) ≤ t) → largest_of (span f s n) ≤ t
unfolding span largest_of
largest_bound f t s zero h = omega arith
largest_bound f t s (suc n) h =
    let here : f s ≤ t = subst (λ (x : ℕ). f x ≤ t) (omega arith) (h 0 (omega arith)) in
    let rest = largest_bound f t (suc s) n (λ v l. subst (λ (x : ℕ). f x ≤ t) (omega arith) (h (suc v) (omega arith))) in
    omega arith

largest_least : (f : ℕ → ℕ) (s n u : ℕ) → u < n → f (s + u) ≤ largest_of (span f s n)
unfolding span largest_of
largest_least f s zero u h = absurd (omega arith)
largest_least f s (suc n) zero h = let e : f (s + 0) ≡ f s = ap f (omega arith) in omega arith
largest_least f s (suc n) (suc u) h =
    let e : f (s + suc u) ≡ f (suc s + u) = ap f (omega arith) in
    let rest = largest_least f (suc s) n u (omega arith) in
    omega arith

pub largest_is : (f : ℕ → ℕ) (t n u : ℕ) → ((v : ℕ) → v < n → f v ≤ t) → u < n → f u ≡ t → largest_of (span f 0 n) ≡ t
largest_is f t n u most hu e =
    let z : 0 + u ≡ u = omega arith in
    omega (
      arith,
      largest_bound f t 0 n (λ v h. most (0 + v) (omega arith)),
      rw z at (largest_least f 0 n u hu),
    )
