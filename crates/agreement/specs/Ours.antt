-- The library's encoders and decoders, by their promises, as the demands take them. Assumes nothing.
use Rattle.std.specs.Prelude.{List, ℕ, suc, ◌/◌, ◌≤◌, ℤ, length, take}
use Rattle.maths.specs.Budget.{iterated}
use Rattle.codes.specs.Answers.{first_of}
use Rattle.codes.specs.Codes.{row_of, checks_in}
use Rattle.codes.specs.Edges.{edges}
use Rattle.codes.specs.Equations.{word_of}
use Rattle.report.specs.Report.{ending, told}
use Rattle.encoder.specs.Outcomes.{encode_tests, copy_tests, encode_outcome, copy_encode_outcome}
use Rattle.bit_flip.specs.Flip.{flipped}
use Rattle.bit_flip.specs.Erasures.{erasure_passes}
use Rattle.bit_flip.specs.Outcome.{told_flip, received, punctured, decoded, tests, outcome}
use Rattle.min_sum.specs.Confidence.{Confidence, Within}
use Rattle.min_sum.specs.MinSum.{hard_bits, start, pass}
use Rattle.min_sum.specs.MinSum as soft
use Rattle.min_sum.specs.Hard.{to_hard}
use Rattle.min_sum.specs.Outcomes.{told_soft, decode_answer, decode_outcome}
use Rattle.soft_flip.specs.OneSize.{OneSize}
use Rattle.agreement.specs.Demands.{Encoder, Sending, Decoder, Receiving}

-- ---- `encode` is lent the codeword, whose first k/8 bytes are the message
abbrev pub encoder : Encoder (List ℕ)
encoder = encode_outcome

abbrev pub encoding : Sending (List ℕ)
encoding =
    record {
      answer = λ code s. first_of (encode_tests code (length s));
      message = λ code s. take ((row_of code).k / 8) s;
      codeword = λ s. s;
    }

-- ---- `copy_encode` is lent both
pub record CopyBuffers : Type 0 where
  pub message : List ℕ
  pub codeword : List ℕ

abbrev pub copy_encoder : Encoder CopyBuffers
copy_encoder code b = copy_encode_outcome code b.message b.codeword

abbrev pub copy_encoding : Sending CopyBuffers
copy_encoding =
    record {
      answer = λ code b. first_of (copy_tests code (length b.message) (length b.codeword));
      message = λ code b. b.message;
      codeword = λ b. b.codeword;
    }

-- ---- bit flipping is lent the word, the output and a working buffer
pub record HardBuffers : Type 0 where
  pub input : List ℕ
  pub output : List ℕ
  pub working : List ℕ

abbrev pub bit_flip : Decoder HardBuffers
bit_flip code b limit = told_flip (outcome code b.input b.output b.working limit)

-- "find broken checks": the word of a pass is what the erasure pass and the flips before it left
abbrev pub flipped_in : ℕ → List ℕ → ℕ → ℕ → ℕ → ℕ
flipped_in code input limit i =
    word_of (iterated (flipped (edges code)) i (erasure_passes (punctured code) (edges code) (row_of code).punctured_bits limit (received code input)).word)

abbrev pub bit_flipping : Receiving HardBuffers
bit_flipping =
    record {
      answer = λ code b limit. first_of (tests code (length b.input) (length b.output) (length b.working));
      word = λ b. b.input;
      output = λ b. b.output;
      hand = λ code b. flipped_in code b.input;
      steps = λ code b limit. told_flip (decoded code b.input limit);
    }

-- ---- min-sum is lent the LLRs, whose hard bits are the word, the output and two working buffers
pub record SoftBuffers (C : Type 0) : Type 0 where
  pub llrs : List C
  pub output : List ℕ
  pub working : List C
  pub signs : List ℕ

module _ {C : Type 0} (o : Confidence C) where
  abbrev pub min_sum : Decoder (SoftBuffers C)
  min_sum code b limit = told_soft (decode_outcome o code b.llrs b.output b.working b.signs limit)

  -- "If the hard bits of the marginals meet every equation": the word of a pass is what the passes up to it left
  abbrev pub marginals_in : ℕ → List C → ℕ → ℕ → ℕ
  marginals_in code llrs i =
      let es = edges code in
      let m = checks_in code in
      let p = (row_of code).punctured_bits in
      hard_bits o (pass o es m p llrs (iterated (pass o es m p llrs) i (start o es m p llrs))).marginals

  abbrev pub min_summing : Receiving (SoftBuffers C)
  min_summing =
      record {
        answer = λ code b limit. decode_answer code (length b.llrs) (length b.output) (length b.working) (length b.signs);
        word = λ b. to_hard o b.llrs;
        output = λ b. b.output;
        hand = λ code b limit. marginals_in code b.llrs;
        steps = λ code b limit. let e = soft.decoded o code b.llrs limit in told (ending e.success e.turns) (to_hard o e.state.marginals);
      }

-- the LLRs are all in a set of values
abbrev pub in_set : {C : Type 0} → Confidence C → (C → Type 0) → SoftBuffers C → Type 0
in_set o In b = Within o In b.llrs

-- they are all of one size, up to the largest number
abbrev pub one_sized : ℕ → SoftBuffers ℤ → Type 0
one_sized top b = (k : ℕ) × (suc k ≤ top) × OneSize k b.llrs
