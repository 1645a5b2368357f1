-- The examples of document 01 that are marked P: by computing, and by a law where that is dear. Assumes nothing.
use mathlib.Core.Bool.{true, false}
use mathlib.Core.List.{List, ◌++◌}
use mathlib.Core.Path.{◌≡◌, refl, ap, ◌∙◌, fun_ext}
use Prim.Native.Nat.{ℕ, ◌+◌, ◌/◌}
use native.Mathlib.Omega.{arith}
use lib.IntN.{ℤ, pos}
use lib.ListN.{length, replicate, length-replicate, replicate-append-replicate}
use Rattle.maths.specs.Lists.{span}
use Rattle.maths.specs.Bytes.{pack}
use Rattle.maths.proofs.Slices.{replicate_at}
use Rattle.maths.proofs.Bytes.{pack_zero}
use Rattle.tables.specs.Words.{generators}
use Rattle.codes.specs.Answers.{first_of}
use Rattle.codes.specs.Codes.{rows, row_of}
use Rattle.codes.proofs.Remaining.{begin}
use Rattle.codes.specs.Frames.{encoded_bytes}
use Rattle.codes.proofs.Codes.{edge_count, roomy}
use Rattle.encoder.specs.Rotation.{placed, rotated}
use Rattle.report.specs.Report.{ending}
use Rattle.bit_flip.specs.Outcome as flip
use Rattle.bit_flip.proofs.Theorems.{clean, limit_none}
use Rattle.min_sum.specs.Soft.{clamp, add, subtract, magnitude, hard}
use Rattle.min_sum.specs.Confidence.{i8}
use Rattle.min_sum.specs.MinSum.{hard_bits}
use Rattle.min_sum.specs.Outcomes.{left, decode_answer, decode_outcome}
use Rattle.min_sum.proofs.Answers.{decode_lent}
use Rattle.min_sum.proofs.Success.{at_once, steady}
use Rattle.sheet_values.specs.Spelling.{ascii}
use Rattle.sheet.specs.Sheet.{flipped_text, answer_to, sheet_of}
use Rattle.sheet_text.proofs.Examples.{document_read, document_printed}
use Rattle.agreement.specs.Examples.{zeros, Examples}
use Rattle.agreement.proofs.Zeros.{zero_bits, zero_meets, zero_frame}

-- ---- bit flipping on the zero frame of TC128
module _ (old working : List ℕ) (old_long : length old ≡ 16) (working_long : length working ≡ 128) where
  flip_accepted : first_of (flip.tests 0 (length (zeros 16)) (length old) (length working)) ≡ 0
  unfolding rows
  flip_accepted = rw (old_long, working_long)

  flip_once : flip.outcome 0 (zeros 16) old working 1 ≡ flip.left (ending true 0) (zeros 16) (zeros 128)
  unfolding rows
  flip_once =
      clean 0 (zeros 16) old working 1 (omega arith) flip_accepted (λ i h. rw (replicate_at {A = ℕ} 16 0 i) (omega arith))
      (rw (zero_bits 16) (zero_meets 0)) (omega arith)

  flip_never : flip.outcome 0 (zeros 16) old working 0 ≡ flip.left (ending false 0) (zeros 16) (zeros 128)
  unfolding rows
  flip_never = limit_none 0 (zeros 16) old working flip_accepted (λ i h. rw (replicate_at {A = ℕ} 16 0 i) (omega arith))

-- ---- min-sum on zero LLRs
zero_hard : (n : ℕ) → hard_bits i8 (replicate n (pos 0)) ≡ (λ v. 0)
unfolding hard
zero_hard n = fun_ext (λ v. rw (replicate_at n (pos 0) v))

module _ (code : ℕ) (old signs : List ℕ) (working : List ℤ) where
  soft_once : decode_answer code (row_of code).n (length old) (length working) (length signs) ≡ 0
      → decode_outcome i8 code (replicate (row_of code).n (pos 0)) old working signs 1
      ≡ left (ending true 0) (zeros (row_of code).output_len) (replicate (length working) (pos 0)) (zeros (length signs))
  soft_once e =
      let n = (row_of code).n in
      let p = (row_of code).punctured_bits in
      let lent = decode_lent code n (length old) (length working) (length signs) e in
      let long : length (replicate n (pos 0)) ≡ n = length-replicate n (pos 0) in
      let given : replicate n (pos 0) ++ replicate p (pos 0) ≡ replicate (n + p) (pos 0) = replicate-append-replicate n p (pos 0) in
      let bytes : length (replicate (n + p) (pos 0)) / 8 ≡ (row_of code).output_len =
      rw (length-replicate (n + p) (pos 0)) (omega (arith, (roomy code lent.is_known).whole)) in
      at_once i8 code (replicate n (pos 0)) old working signs 1 (rw long e) (steady 127) (λ i. tt) (omega arith) (rw (given, zero_hard (n + p)) (zero_meets code))
      ∙ rw (given, zero_hard (n + p), bytes, pack_zero (row_of code).output_len)

-- ---- the bench sheet: what it asks for, what bit flipping leaves, and what is printed of that
whole_sheet : sheet_of (ascii "code=0\nop=bf\nmaxiters=1\nframe=00000000000000000000000000000000\n")
    ≡ ascii "answer=0\nsuccess=1\niters=0\noutput=00000000000000000000000000000000\n"
unfolding rows
whole_sheet = ap answer_to document_read ∙ ap flipped_text (flip_once (zeros 16) (zeros 128) refl refl) ∙ document_printed

pub examples : Examples
unfolding clamp add subtract magnitude hard rotated placed span pack rows generators encoded_bytes decode_answer
examples =
    record {
      identity = refl;
      sum = refl;
      difference = refl;
      magnitude = refl;
      hard_bit = refl;
      rotation = refl;
      begins = refl;
      walk = rw (begin 0) (edge_count 0 (omega arith));
      zero_data = zero_frame;
      one_bit = refl;
      flip_once = flip_once;
      flip_never = flip_never;
      soft_once = soft_once;
      last_code = refl;
      last_encode = refl;
      last_copy = refl;
      last_flip = refl;
      last_soft = refl;
      no_code = refl;
      no_encode = λ codeword. refl;
      no_copy = λ message codeword. refl;
      no_flip = λ input output working. refl;
      no_soft = λ llrs output working signs. refl;
      whole_sheet = whole_sheet;
    }
