-- Whether a word meets every parity equation, as a test. Assumes nothing.
use Rattle.std.specs.Prelude.{◌≡◌, ℕ, ◌%◌, Bool, not, List, [], ◌∷◌, length, ◌==◌, nat_eq, false, Result, Ok, Err}
use Rattle.maths.specs.Tests.{both, below}
use Rattle.maths.specs.Lists.{span, largest_of}
use Rattle.maths.specs.Bits.{bit_at}
use Rattle.codes.specs.declared.CodeParams.{CodeParams}
use Rattle.codes.specs.declared.refusal.Refusal.{Refusal}
use Rattle.codes.specs.Answers.{Test, test, first_of, number, unlike}
use Rattle.codes.specs.Codes.{Known, known, row_of, checks_in}
use Rattle.codes.specs.Edges.{Edge, edges}
use Rattle.codes.specs.Equations.{par}

-- 1 where a check is broken, else 0, for each of m checks
unfoldable pub syndrome_of : List Edge → ℕ → (ℕ → ℕ) → List ℕ
syndrome_of es m w = span (λ a. par es w a % 2) 0 m

-- whether none is
unfoldable pub none_broken : List Edge → ℕ → (ℕ → ℕ) → Bool
none_broken es m w = largest_of (syndrome_of es m w) == 0

-- whether each of m checks holds
abbrev pub holds : List Edge → ℕ → (ℕ → ℕ) → Bool
holds es m w = below m (λ a. nat_eq (par es w a % 2) 0)

unfoldable pub meets_test : ℕ → (ℕ → ℕ) → Bool
meets_test code w = holds (edges code) (checks_in code) w

-- the tests of a word of so many bytes, in order
abbrev pub meet_tests : ℕ → ℕ → List Test
meet_tests code bytes = test (not (known code)) 1 ∷ test (unlike bytes (row_of code).output_len) 2 ∷ []

-- an answer in numbers, and whether the word meets every equation
pub record Met : Type 0 where
  pub answer : ℕ
  pub met : Bool

-- what a call says
abbrev pub met_by : Result Bool Refusal → Met
met_by (Ok b) = record { answer = 0; met = b }
met_by (Err why) = record { answer = number why; met = false }

-- the answer to whether a word of (n+p)/8 bytes meets every equation
unfoldable pub met_of : ℕ → List ℕ → Met
met_of code word =
    let answer = first_of (meet_tests code (length word)) in
    record { answer = answer; met = both (answer == 0) (meets_test code (bit_at word)) }

-- an accepted call: the code's row, and a word as long as its words
pub record Accepted (code : ℕ) (row : CodeParams) (bytes : ℕ) : Type 0 where
  pub known : Known code
  pub is_row : row ≡ row_of code
  pub long : bytes ≡ (row_of code).output_len
