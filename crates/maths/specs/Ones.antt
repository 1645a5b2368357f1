-- Words with few ones. Assumes nothing.
use Rattle.std.specs.Prelude.{List, [], ◌∷◌, ℕ, zero, suc, eqb}
use Rattle.maths.specs.Tests.{pick}

-- the word with the one bit x
abbrev pub delta : ℕ → ℕ → ℕ
delta x v = pick (eqb v x) 1 0

-- the places below n at which a word is not 0, the highest first
unfoldable pub ones : ℕ → (ℕ → ℕ) → List ℕ
ones zero f = []
ones (suc n) f = pick (eqb (f n) 0) (ones n f) (n ∷ ones n f)
