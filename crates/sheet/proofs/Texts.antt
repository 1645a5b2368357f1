-- What the operations print, by what the library's calls left. Assumes nothing.
use Rattle.std.proofs.Common.{◌≡◌, ℕ, ◌/◌, ◌≤◌, Bool, true, false, List, [], Result, Ok, Err, ℤ, pos, negsuc, length, take, replicate, refl, sym, ap, ◌∙◌}
use Rattle.std.specs.Bool.{⊤}
use lib.Seq.{take_all}
use Rattle.maths.proofs.Slices.{replicate_front}
use Rattle.codes.specs.declared.CodeParams.{CodeParams}
use Rattle.codes.specs.declared.refusal.Refusal.{Refusal}
use Rattle.codes.specs.declared.refusal.Refusal.TheVariants.{UnknownCode, WrongRead, WrongWritten, WrongWorking, WrongSigns, LimitTooLarge}
use Rattle.codes.specs.Answers.{number, answer_of}
use Rattle.codes.specs.Codes.{row_of, max_bits, max_bytes, max_sent_bytes}
use Rattle.codes.specs.Sound.{Bounded}
use Rattle.report.specs.declared.Ended.{Ended}
use Rattle.report.specs.declared.Report.{Report}
use Rattle.report.specs.Report.{refusal, ending, report_of}
use Rattle.encoder.specs.Outcomes.{encoded, copy_encode_outcome}
use Rattle.bit_flip.specs.Outcome as flip
use Rattle.min_sum.specs.Confidence.{i8}
use Rattle.min_sum.specs.Outcomes as soft
use Rattle.sheet_text.specs.Printing.{printed, max_output}
use Rattle.sheet.specs.declared.Refused.{Refused}
use Rattle.sheet.specs.declared.Refused.TheVariants.{By}
use Rattle.sheet.specs.Refused.{text_of}
use Rattle.sheet_values.specs.declared.Op.TheVariants.{Ms}
use Rattle.sheet.specs.Sheet.{reported, encoded_text, flipped_text, soft_text, soft_from, encode_sheet, bf_sheet, operation, too_large, soft_sent, soft_working, soft_signs}
use Rattle.sheet.proofs.Rooms.{served_sent, served_working, served_signs}

-- a report of a call that was accepted, with its output, and of one that was refused, without
pub ended_text : (s : Bool) (i : ℕ) (r : Report) (output text : List ℕ) → r ≡ ending s i → length output ≤ max_output
    → text ≡ printed r.answer r.success r.iters (take max_output output) → text ≡ reported (ending s i) output
ended_text s i r output text e h p = p ∙ rw (e, take_all max_output output h)

pub refused_text : (why : Refusal) (output : List ℕ) → reported (refusal (number why)) [] ≡ reported (refusal (number why)) output
refused_text UnknownCode output = refl
refused_text WrongRead output = refl
refused_text WrongWritten output = refl
refused_text WrongWorking output = refl
refused_text WrongSigns output = refl
refused_text LimitTooLarge output = refl

-- what a call told, as it is printed: a refusal, or how it ended
pub refused_told : (told : Result Ended Refusal) (why : Refusal) (result : Result (List ℕ) Refused) (output : List ℕ) → told ≡ Err why → result ≡ Err (By why)
    → text_of result ≡ reported (report_of told) output
refused_told told why result output e f = rw (f, e) (refused_text why output)

pub ended_told : (told : Result Ended Refusal) (ended : Ended) (r : Report) (output text : List ℕ) → told ≡ Ok ended → r ≡ ending ended.success ended.iters
    → length output ≤ max_output → text ≡ printed r.answer r.success r.iters (take max_output output) → text ≡ reported (report_of told) output
ended_told told ended r output text e f h p = rw e (ended_text ended.success ended.iters r output text f h p)

-- encoding into the front of a buffer
module _ (code : ℕ) (frame : List ℕ) (row : CodeParams) (is : row ≡ row_of code) (b : Bounded row) where
  pub encode_ended : (told : Result ⊤ Refusal) (r : Report) (codeword text : List ℕ) → told ≡ Ok tt
      → encoded (answer_of told) codeword ≡ copy_encode_outcome code frame (take (row.n / 8) (replicate max_sent_bytes 0))
      → r ≡ ending true 0 → length codeword ≤ max_output → text ≡ printed r.answer r.success r.iters (take max_output codeword) → text ≡ encode_sheet code frame
  encode_ended told r codeword text t e f h p =
      let q = ended_text true 0 r codeword text f h p in
      let s : encoded (answer_of told) codeword ≡ encoded 0 codeword = rw t in
      q ∙ ap encoded_text (sym s ∙ e) ∙ ap (λ (w : List ℕ). encoded_text (copy_encode_outcome code frame w)) (replicate_front {A = ℕ} max_sent_bytes 0 _ b.sent_bytes)
      ∙ ap (λ (r : CodeParams). encoded_text (copy_encode_outcome code frame (replicate (r.n / 8) 0))) is

-- bit flipping with the fronts of its buffers, which the row of the code cuts
module _ (code limit : ℕ) (frame : List ℕ) (row : CodeParams) (is : row ≡ row_of code) (b : Bounded row) where
  abbrev buffers : List ℕ → List ℕ → flip.Outcome
  buffers output working = flip.outcome code frame output working limit

  abbrev lent : flip.Outcome
  lent = buffers (take row.output_len (replicate max_bytes 0)) (take row.decode_bf_working_len (replicate max_bits 0))

  flip_lent : flipped_text lent ≡ bf_sheet code limit frame
  flip_lent = rw (replicate_front {A = ℕ} max_bytes 0 _ b.output, replicate_front {A = ℕ} max_bits 0 _ b.flip_working, is)

  pub flip_told : (told : Result Ended Refusal) (output working text : List ℕ) → flip.left (report_of told) output working ≡ lent
      → text ≡ reported (report_of told) output → text ≡ bf_sheet code limit frame
  flip_told told output working text e p = p ∙ ap (λ (x : flip.Outcome). flipped_text x) e ∙ flip_lent

-- min-sum: where the frame's confidences were not made, and where they were
module _ (code limit : ℕ) (frame : List ℕ) (row : CodeParams) (is : row ≡ row_of code) (b : Bounded row) (other : too_large code ≡ false) where
  abbrev made : soft.Written ℤ
  made = soft.to_llrs_outcome (negsuc 0) (pos 1) code frame (take row.n (replicate soft_sent (pos 0)))

  abbrev soft_lent : soft.Written ℤ → List ℕ
  soft_lent l =
      soft_from code limit l (take row.output_len (replicate max_bytes 0)) (take row.decode_ms_working_len (replicate soft_working (pos 0)))
      (take row.decode_ms_working_u8_len (replicate soft_signs 0))

  soft_fronts : soft_lent made ≡ operation Ms code limit frame
  soft_fronts =
      rw (
        other,
        replicate_front {A = ℤ} soft_sent (pos 0) _ (served_sent code row is other),
        replicate_front {A = ℕ} max_bytes 0 _ b.output,
        replicate_front {A = ℤ} soft_working (pos 0) _ (served_working code row is other),
        replicate_front {A = ℕ} soft_signs 0 _ (served_signs code row is other),
        is,
      )

  unmade : (why : Refusal) (llrs : List ℤ) → reported (refusal (number why)) [] ≡ soft_lent (soft.written (number why) llrs)
  unmade UnknownCode llrs = refl
  unmade WrongRead llrs = refl
  unmade WrongWritten llrs = refl
  unmade WrongWorking llrs = refl
  unmade WrongSigns llrs = refl
  unmade LimitTooLarge llrs = refl

  pub soft_refused : (llrs_told : Result ⊤ Refusal) (why : Refusal) (llrs : List ℤ) (result : Result (List ℕ) Refused) → llrs_told ≡ Err why
      → soft.written (answer_of llrs_told) llrs ≡ made → result ≡ Err (By why) → text_of result ≡ operation Ms code limit frame
  soft_refused llrs_told why llrs result e m f =
      let s : soft.written (number why) llrs ≡ made = rw e at m in
      rw f (unmade why llrs ∙ ap soft_lent s ∙ soft_fronts)

  pub soft_told : (llrs_told : Result ⊤ Refusal) (told : Result Ended Refusal) (llrs working : List ℤ) (output signs text : List ℕ) → llrs_told ≡ Ok tt
      → soft.written (answer_of llrs_told) llrs ≡ made
      → soft.left (report_of told) output working signs
      ≡ soft.decode_outcome i8 code llrs (take row.output_len (replicate max_bytes 0)) (take row.decode_ms_working_len (replicate soft_working (pos 0)))
      (take row.decode_ms_working_u8_len (replicate soft_signs 0)) limit
      → text ≡ reported (report_of told) output → text ≡ operation Ms code limit frame
  soft_told llrs_told told llrs working output signs text e m d p =
      let s : soft.written 0 llrs ≡ made = rw e at m in
      p ∙ ap (λ (x : soft.Outcome ℤ). soft_text x) d ∙ ap soft_lent s ∙ soft_fronts
