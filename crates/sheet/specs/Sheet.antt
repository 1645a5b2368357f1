-- The answer to a sheet, over what the library's own calls leave. Assumes nothing.
use Rattle.std.specs.Prelude.{Option, Some, None, Bool, true, List, [], ℕ, ◌/◌, eqb, ℤ, pos, negsuc, replicate}
use Rattle.maths.specs.Tests.{pick}
use Rattle.codes.specs.Codes.{row_of}
use Rattle.report.specs.declared.Report.{Report}
use Rattle.report.specs.Report.{refusal, ending}
use Rattle.encoder.specs.Outcomes.{Encoded, copy_encode_outcome}
use Rattle.bit_flip.specs.Outcome as flip
use Rattle.min_sum.specs.Confidence.{i8}
use Rattle.min_sum.specs.Outcomes as soft
use Rattle.sheet_values.specs.declared.Op.{Op}
use Rattle.sheet_values.specs.declared.Op.TheVariants.{Encode, Bf, Ms}
use Rattle.sheet_text.specs.Reading.{Sheet, parse, text_number}
use Rattle.sheet_text.specs.Printing.{printed}

-- "Every accepted call prints all its output bytes .. success or not"; "a refusal prints its number, `success=0`, `iters=0`, `output=`"
abbrev pub reported : Report → List ℕ → List ℕ
reported r output = printed r.answer r.success r.iters (pick (eqb r.answer 0) output [])

-- "accepted, it prints success 1, iterations 0"
abbrev pub encode_report : ℕ → Report
encode_report answer = pick (eqb answer 0) (ending true 0) (refusal answer)

abbrev pub encoded_text : Encoded → List ℕ
encoded_text x = reported (encode_report x.answer) x.codeword

abbrev pub flipped_text : flip.Outcome → List ℕ
flipped_text x = reported x.report x.output

abbrev pub soft_text : soft.Outcome ℤ → List ℕ
soft_text x = reported x.report x.output

-- ---- the operations: every buffer has its code's length and holds zeros
-- "For `encode` the frame is the k/8 data bytes, the output the n/8 bytes of the codeword"
abbrev pub encode_sheet : ℕ → List ℕ → List ℕ
encode_sheet code frame = encoded_text (copy_encode_outcome code frame (replicate ((row_of code).n / 8) 0))

abbrev pub bf_sheet : ℕ → ℕ → List ℕ → List ℕ
bf_sheet code limit frame =
    let row = row_of code in
    flipped_text (flip.outcome code frame (replicate row.output_len 0) (replicate row.decode_bf_working_len 0) limit)

-- "`ms` goes through `hard_to_llrs`": the decoder is asked where that is not refused
abbrev pub soft_from : ℕ → ℕ → soft.Written ℤ → List ℕ → List ℤ → List ℕ → List ℕ
soft_from code limit l output working signs =
    pick (eqb l.answer 0) (soft_text (soft.decode_outcome i8 code l.buffer output working signs limit)) (reported (refusal l.answer) [])

abbrev pub ms_sheet : ℕ → ℕ → List ℕ → List ℕ
ms_sheet code limit frame =
    let row = row_of code in
    soft_from code limit (soft.to_llrs_outcome (negsuc 0) (pos 1) code frame (replicate row.n (pos 0))) (replicate row.output_len 0)
    (replicate row.decode_ms_working_len (pos 0)) (replicate row.decode_ms_working_u8_len 0)

-- min-sum's working buffer of a code "is too much for the bench sheet, which answers well-formed `ms` for code 8 with a number of its own, 14"
abbrev pub too_large : ℕ → Bool
too_large code = eqb code 8

abbrev pub no_room : ℕ
no_room = 14

-- what the other codes ask for at most: confidences, working numbers and sign bytes
abbrev pub soft_sent : ℕ
soft_sent = 6144

abbrev pub soft_working : ℕ
soft_working = 60416

abbrev pub soft_signs : ℕ
soft_signs = 384

-- "Anything else .. is 9"; `encode` "reads `maxiters` and doesn't use it"; 14 is tested before all that the library tests
abbrev pub operation : Op → ℕ → ℕ → List ℕ → List ℕ
operation Encode code limit frame = encode_sheet code frame
operation Bf code limit frame = bf_sheet code limit frame
operation Ms code limit frame = pick (too_large code) (reported (refusal no_room) []) (ms_sheet code limit frame)

abbrev pub answer_to : Option Sheet → List ℕ
answer_to None = reported (refusal (text_number None)) []
answer_to (Some q) = operation q.op q.code q.limit q.frame

abbrev pub sheet_of : List ℕ → List ℕ
sheet_of text = answer_to (parse text)
