-- What a call of decode_bf leaves behind. Assumes nothing.
use Rattle.std.specs.Prelude.{Bool, not, List, [], ◌∷◌, ℕ, ◌+◌, ◌/◌, eqb, length, replicate}
use Rattle.maths.specs.Tests.{pick}
use Rattle.maths.specs.Lists.{span}
use Rattle.maths.specs.Bits.{bit_at}
use Rattle.maths.specs.Bytes.{pack}
use Rattle.codes.specs.Answers.{Test, test, first_of, unlike}
use Rattle.codes.specs.Codes.{known, row_of, bits_in, checks_in}
use Rattle.codes.specs.Edges.{Edge, edges}
use Rattle.codes.specs.Equations.{word_of}
use Rattle.report.specs.declared.Ended.{Ended}
use Rattle.report.specs.declared.Report.{Report}
use Rattle.report.specs.Report.{refusal, ending, Told, told}
use Rattle.bit_flip.specs.Flip.{passes}
use Rattle.bit_flip.specs.Erasures.{erasure_passes, from_on}

-- its report, and both buffers that it writes
pub record Outcome : Type 0 where
  pub report : Report
  pub output : List ℕ
  pub working : List ℕ

abbrev pub left : Report → List ℕ → List ℕ → Outcome
left r o w = record { report = r; output = o; working = w }

-- what is told of it
abbrev pub told_flip : Outcome → Told
told_flip x = told x.report x.output

-- the report of passes that ended
abbrev pub ended : Ended → Report
ended e = ending e.success e.iters

-- the report, and the word that the passes leave
pub record Decoded : Type 0 where
  pub report : Report
  pub word : List ℕ

abbrev pub decoded_to : Report → List ℕ → Decoded
decoded_to r w = record { report = r; word = w }

-- the erasure passes, then the main passes; the count returned is the sum of both
unfoldable pub decode_word : List Edge → ℕ → (ℕ → Bool) → ℕ → ℕ → List ℕ → Decoded
decode_word es m erased p limit w =
    let s = erasure_passes erased es p limit w in
    let e = passes es m limit s.word in
    decoded_to (ending e.success (e.turns + s.count)) e.state

-- "The output starts as the input": the bits that were sent, and 0 for those that were not
abbrev pub received : ℕ → List ℕ → List ℕ
received code input = span (bit_at input) 0 (bits_in code)

-- the bits of a code that are not sent
abbrev pub punctured : ℕ → ℕ → Bool
punctured code = from_on (row_of code).n (bits_in code)

-- the word that all passes leave
abbrev pub decoded_word : ℕ → List ℕ → ℕ → Decoded
decoded_word code input limit =
    decode_word (edges code) (checks_in code) (punctured code) (row_of code).punctured_bits limit (received code input)

-- an accepted call: the word as bytes, and every working byte 0
unfoldable pub decoded : ℕ → List ℕ → ℕ → Outcome
decoded code input limit =
    let d = decoded_word code input limit in
    left d.report (pack (word_of d.word) (row_of code).output_len) (replicate (bits_in code) 0)

-- the tests of a call with buffers of these lengths, in order
abbrev pub tests : ℕ → ℕ → ℕ → ℕ → List Test
tests code input output working =
    test (not (known code)) 1 ∷
    test (unlike input ((row_of code).n / 8)) 2 ∷
    test (unlike output (row_of code).output_len) 3 ∷
    test (unlike working (row_of code).decode_bf_working_len) 4 ∷
    []

-- "A refusal says success false, iterations 0, and changes no byte of any buffer."
unfoldable pub outcome : ℕ → List ℕ → List ℕ → List ℕ → ℕ → Outcome
outcome code input output working limit =
    let answer = first_of (tests code (length input) (length output) (length working)) in
    pick (eqb answer 0) (decoded code input limit) (left (refusal answer) output working)
