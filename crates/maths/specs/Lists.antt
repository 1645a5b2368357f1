-- Lists made of numbers that are counted up, folds, and parts of lists. Assumes nothing.
use Rattle.std.specs.Prelude.{Bool, List, [], ◌∷◌, ◌++◌, ℕ, zero, suc, max, drop}
use Rattle.maths.specs.Tests.{pick}

-- f s, f (s + 1), .., of which there are n
unfoldable pub span : {A : Type 0} → (ℕ → A) → ℕ → ℕ → List A
span f s zero = []
span f s (suc n) = f s ∷ span f (suc s) n

-- the state after each element in turn
unfoldable pub fold : {A S : Type 0} → (A → S → S) → List A → S → S
fold step [] s = s
fold step (x ∷ xs) s = fold step xs (step x s)

-- the elements of which a test holds
abbrev pub keep : {A : Type 0} → (A → Bool) → List A → List A
keep f [] = []
keep f (x ∷ xs) = pick (f x) (x ∷ keep f xs) (keep f xs)

-- the largest number of a list, 0 where it has none
unfoldable pub largest_of : List ℕ → ℕ
largest_of [] = 0
largest_of (x ∷ xs) = max x (largest_of xs)

-- the list d, its first k elements replaced by f 0, .., f (k - 1)
abbrev pub overwrite : {A : Type 0} → (ℕ → A) → ℕ → List A → List A
overwrite f k d = span f 0 k ++ drop k d
