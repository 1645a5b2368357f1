-- How many elements of a list pass a test, and lists of which no two elements are alike. Assumes nothing.
use Rattle.std.specs.Prelude.{Bool, true, not, List, [], ◌∷◌, ℕ, ◌+◌}
use Rattle.maths.specs.Tests.{pick, both, all}

-- how many elements pass a test
abbrev pub tally : {A : Type 0} → (A → Bool) → List A → ℕ
tally f [] = 0
tally f (x ∷ xs) = pick (f x) 1 0 + tally f xs

-- no two elements are alike
abbrev pub apart : {A : Type 0} → (A → A → Bool) → List A → Bool
apart like [] = true
apart like (x ∷ xs) = both (all (λ y. not (like x y)) xs) (apart like xs)
