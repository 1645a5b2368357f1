-- The main passes of bit flipping, over a list of edges. A word is the list of its bits. Assumes nothing.
use Rattle.std.specs.Prelude.{List, ℕ, ◌-◌, ◌%◌, eqb, length}
use Rattle.maths.specs.Tests.{pick}
use Rattle.maths.specs.Lists.{span, largest_of}
use Rattle.maths.specs.Sums.{sum_l}
use Rattle.maths.specs.Budget.{Turn, stop, go, End, run}
use Rattle.codes.specs.Edges.{Edge}
use Rattle.codes.specs.Equations.{checks_of, par, word_of}
use Rattle.runs.specs.Meets.{holds}

-- 1 where the check a is broken: the sum of its bits is odd
unfoldable pub broken : List Edge → List ℕ → ℕ → ℕ
broken es w a = par es (word_of w) a % 2

-- "give each bit the number of its edges to broken checks"
unfoldable pub score : List Edge → List ℕ → ℕ → ℕ
score es w v = sum_l (checks_of es v) (broken es w)

-- the largest number that a bit has
unfoldable pub top_score : List Edge → List ℕ → ℕ
top_score es w = largest_of (span (score es w) 0 (length w))

-- "flip all bits that have the largest"
unfoldable pub flipped : List Edge → List ℕ → List ℕ
flipped es w = span (λ v. pick (eqb (score es w v) (top_score es w)) (1 - word_of w v) (word_of w v)) 0 (length w)

-- "find broken checks; if none, success with the pass number. Otherwise .. flip": no check follows the last flip
unfoldable pub turn : List Edge → ℕ → List ℕ → Turn (List ℕ)
turn es m w = pick (holds es m (word_of w)) (stop w) (go (flipped es w))

-- "Each main pass, numbered from 0 .. After maxiters passes: false, maxiters."
abbrev pub passes : List Edge → ℕ → ℕ → List ℕ → End (List ℕ)
passes es m limit w = run (turn es m) limit 0 w
