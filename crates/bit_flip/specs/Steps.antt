-- What the functions inside ask of what they are lent, and a list set from a place on. Assumes nothing.
use Rattle.std.specs.Prelude.{Bool, List, ◌≡◌, ℕ, ◌/◌, ◌≤◌, ◌<◌, leb, length}
use Rattle.maths.specs.Tests.{pick}
use Rattle.maths.specs.Lists.{span}
use Rattle.codes.specs.declared.CodeParams.{CodeParams}
use Rattle.codes.specs.Codes.{Known, row_of}
use Rattle.codes.specs.Edges.{Edge}
use Rattle.runs.specs.declared.EdgeRun.{EdgeRun}
use Rattle.runs.specs.Runs.{laid}
use Rattle.codes.specs.Equations.{checks_of, word_of}

-- the list w, every element from n on replaced by x
unfoldable pub set_from : ℕ → ℕ → List ℕ → List ℕ
set_from n x w = span (λ v. pick (leb n v) x (word_of w v)) 0 (length w)

-- no bit has so many edges that a byte could not hold its votes
pub record FewEdges (es : List Edge) : Type 0 where
  pub at : (v : ℕ) → length (checks_of es v) ≤ 31

-- so of those edges of a list of runs that lie within any checks and bits
abbrev pub FewLaid : List EdgeRun → Type 0
FewLaid rs = (m n : ℕ) → FewEdges (laid m n rs)

-- every element is 0 or 1
abbrev pub Bits : List ℕ → Type 0
Bits w = (v : ℕ) → word_of w v < 2

-- b is the word w with a 2 for each erased bit
pub record Marked (erased : ℕ → Bool) (w b : List ℕ) : Type 0 where
  pub bits : Bits w
  pub long : length b ≡ length w
  pub byte : (v : ℕ) → word_of b v ≡ pick (erased v) 2 (word_of w v)

-- an accepted call: the code's row, and the length of what is read
pub record Accepted (code : ℕ) (row : CodeParams) (input : ℕ) : Type 0 where
  pub known : Known code
  pub is_row : row ≡ row_of code
  pub input_long : input ≡ (row_of code).n / 8
