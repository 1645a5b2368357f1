-- Words with some of their bits flipped. A word is the list of its bits. Assumes nothing.
use Rattle.std.specs.Prelude.{List, ℕ, ◌+◌, ◌%◌, length}
use Rattle.maths.specs.Lists.{span}
use Rattle.maths.specs.Ones.{delta}
use Rattle.codes.specs.Equations.{word_of}

-- the word w with the bits flipped that are ones of e
unfoldable pub plus : List ℕ → List ℕ → List ℕ
plus w e = span (λ v. (word_of w v + word_of e v) % 2) 0 (length w)

-- n bits of which x alone is one, and x and y
abbrev pub one_at : ℕ → ℕ → List ℕ
one_at n x = span (delta x) 0 n

abbrev pub two_at : ℕ → ℕ → ℕ → List ℕ
two_at n x y = span (λ v. delta x v + delta y v) 0 n
