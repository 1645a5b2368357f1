-- What is left of encoding: the answer, and the bytes of the codeword. Assumes nothing.
use Rattle.std.specs.Prelude.{not, List, [], ◌∷◌, ℕ, ◌/◌, eqb, length, take}
use Rattle.maths.specs.Tests.{pick}
use Rattle.codes.specs.Answers.{Test, test, first_of, unlike}
use Rattle.codes.specs.Codes.{known, row_of}
use Rattle.codes.specs.Frames.{encoded_bytes}

pub record Encoded : Type 0 where
  pub answer : ℕ
  pub codeword : List ℕ

abbrev pub encoded : ℕ → List ℕ → Encoded
encoded answer codeword = record { answer = answer; codeword = codeword }

-- "A refusal .. changes no byte of any buffer"
abbrev pub outcome : ℕ → List ℕ → List ℕ → Encoded
outcome answer frame codeword = encoded answer (pick (eqb answer 0) frame codeword)

-- the tests of `encode` on a codeword of this length, in order: "In-place `encode` has no read buffer: a wrong codeword length is 3."
abbrev pub encode_tests : ℕ → ℕ → List Test
encode_tests code codeword = test (not (known code)) 1 ∷ test (unlike codeword ((row_of code).n / 8)) 3 ∷ []

-- the tests of `copy_encode` on data and a codeword of these lengths, in order
abbrev pub copy_tests : ℕ → ℕ → ℕ → List Test
copy_tests code message codeword =
    test (not (known code)) 1 ∷
    test (unlike message ((row_of code).k / 8)) 2 ∷
    test (unlike codeword ((row_of code).n / 8)) 3 ∷
    []

-- "Data stays in the first k/8 bytes."
abbrev pub encode_outcome : ℕ → List ℕ → Encoded
encode_outcome code codeword =
    outcome (first_of (encode_tests code (length codeword))) (encoded_bytes code (take ((row_of code).k / 8) codeword)) codeword

-- "`copy_encode` first copies the data."
abbrev pub copy_encode_outcome : ℕ → List ℕ → List ℕ → Encoded
copy_encode_outcome code message codeword =
    outcome (first_of (copy_tests code (length message) (length codeword))) (encoded_bytes code message) codeword
