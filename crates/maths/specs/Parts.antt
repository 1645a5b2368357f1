-- A part of a list, and a list with another part. Assumes nothing.
use Rattle.std.specs.Prelude.{List, ◌++◌, ℕ, ◌+◌, leb, length, take, drop}
use Rattle.maths.specs.Tests.{pick}

-- the n elements from a on
abbrev pub part : {A : Type 0} → ℕ → ℕ → List A → List A
part a n w = take n (drop a w)

-- the list with the elements xs from a on
abbrev pub spliced : {A : Type 0} → ℕ → List A → List A → List A
spliced a xs w = take a w ++ (xs ++ drop (a + length xs) w)

-- the same, where it has so many elements
unfoldable pub overlaid : {A : Type 0} → ℕ → List A → List A → List A
overlaid a xs w = pick (leb (a + length xs) (length w)) (spliced a xs w) w
