-- The parity equations of a code. Assumes nothing.
use Rattle.std.specs.Prelude.{List, [], ◌∷◌, ℕ, ◌<◌, eqb, get_or}
use Rattle.maths.specs.Tests.{pick}
use Rattle.maths.specs.Sums.{sum_l, Even}
use Rattle.codes.specs.Codes.{checks_in}
use Rattle.codes.specs.Edges.{Edge, edges}

-- the far ends of the edges whose near end is a, each as often as it has edges, in order
abbrev pub ends : (Edge → ℕ) → (Edge → ℕ) → List Edge → ℕ → List ℕ
ends near far [] a = []
ends near far (e ∷ es) a = pick (eqb (near e) a) (far e ∷ ends near far es a) (ends near far es a)

abbrev pub check_of : Edge → ℕ
check_of e = e.check

abbrev pub bit_of : Edge → ℕ
bit_of e = e.bit

-- the bits of a check, and the checks of a bit
abbrev pub bits_of : List Edge → ℕ → List ℕ
bits_of = ends check_of bit_of

abbrev pub checks_of : List Edge → ℕ → List ℕ
checks_of = ends bit_of check_of

-- "A parity equation is the set of edges of one check; it holds if the sum of its bits, each as often as it has edges, is even."
abbrev pub par : List Edge → (ℕ → ℕ) → ℕ → ℕ
par es w a = sum_l (bits_of es a) w

-- a word that is given as a list of bits
abbrev pub word_of : List ℕ → ℕ → ℕ
word_of bits v = get_or bits v 0

abbrev pub Hold : List Edge → ℕ → (ℕ → ℕ) → Type 0
Hold es m w = (a : ℕ) → a < m → Even (par es w a)

-- the word meets every equation of the code: "There are n+p-k equations"
abbrev pub Meets : ℕ → (ℕ → ℕ) → Type 0
Meets code w = Hold (edges code) (checks_in code) w
