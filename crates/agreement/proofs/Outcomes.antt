-- One outcome for each input: any two that the promise of a public function allows coincide. Assumes nothing.
use mathlib.Core.Bool.{Bool, true, false}
use mathlib.Core.List.{List, [], ◌∷◌}
use mathlib.Core.Path.{◌≡◌, refl, sym, ap, ◌∙◌}
use Prim.Native.Nat.{ℕ, ◌-◌, ◌/◌}
use lib.IntN.{ℤ, pos, negsuc}
use lib.ListN.{get_or}
use Rattle.maths.specs.Tests.{Agrees}
use native.Mathlib.Omega.{arith}
use Rattle.std.specs.Prelude.{Option, Result, Ok, Err, ⊤, get_or}
use Rattle.codes.specs.declared.refusal.Refusal.{Refusal}
use Rattle.codes.specs.declared.parity_iter.Check.{Check}
use Rattle.codes.specs.declared.parity_iter.Bit.{Bit}
use Rattle.codes.specs.declared.parity_iter.ParityIter.{ParityIter}
use Rattle.codes.specs.Answers.{number, answer_of}
use Rattle.codes.specs.Codes.{row_of}
use Rattle.codes.specs.Walk.{remaining, handed, after_step, Steps}
use Rattle.codes.proofs.Answers.{answer_decides, number_decides, number_above}
use Rattle.runs.specs.declared.EdgeRun.{EdgeRun}
use Rattle.runs.specs.Runs.{run}
use Rattle.runs.specs.Meets.{Met, met_by, met_of}
use Rattle.report.specs.declared.Ended.{Ended}
use Rattle.report.specs.Report.{report_of}
use Rattle.report.proofs.Ending.{report_decides}
use Rattle.encoder.specs.Outcomes.{Encoded, encoded, encode_outcome, copy_encode_outcome}
use Rattle.bit_flip.specs.Outcome as flip
use Rattle.min_sum.specs.Confidence.{i8}
use Rattle.min_sum.specs.declared.layout.Layout.{Layout}
use Rattle.min_sum.specs.Working.{Parts, lent_as, restart_parts, Exchanged, exchange, exchanged}
use Rattle.min_sum.specs.Anywhere as anywhere
use Rattle.min_sum.specs.Outcomes.{Outcome, left, decode_answer, decode_outcome, convert_answer, Written, written, to_llrs_outcome, to_hard_outcome}
use Rattle.labrador_ldpc.specs.Doors.{Row, row, params_outcome, Hard, hard, hard_door, Soft, soft, soft_door}
use Rattle.cases.specs.declared.Case.{Case}
use Rattle.cases.specs.declared.Operation.{Operation}
use Rattle.cases.specs.declared.Operation.TheVariants.{Encoders, BitFlipping, MinSum, HardToLlrs, LlrsToHard, Sheet}
use Rattle.cases.specs.declared.UnknownOperation.{UnknownOperation}
use Rattle.cases.specs.Cases.{Numbers, Headed, Heads}
use Rattle.cases.specs.Cases as cases
use Rattle.sheet_text.specs.declared.read.Request.{Request}
use Rattle.sheet_text.specs.Reading.{asked, read_of, text_number, read_answer}

-- what two outcomes both equal makes them equal: this is the theorem of a function that leaves one thing behind, its answer or a buffer, whose promise is an equation for it
pub one : {A : Type 0} {x y z : A} → x ≡ z → y ≡ z → x ≡ y
one p q = p ∙ sym q

-- and of one whose answer tells exactly whether something is so
pub agrees_one : {P : Type 0} (r s : Bool) → Agrees r P → Agrees s P → r ≡ s
agrees_one true s a b = sym (b.complete (a.sound refl))
agrees_one false true a b = a.complete (b.sound refl)
agrees_one false false a b = refl

-- ---- codes and runs: what a step of the walk answers, by value or in place, and the walk that it leaves; a run of a list; the runs that are lent;
-- whether a word meets the equations
pub step_one : (walk : ParityIter) {x y : Option ((Check × Bit) × ParityIter)}
    → (x ≡ handed walk) × (after_step x ≡ remaining walk) → (y ≡ handed walk) × (after_step y ≡ remaining walk) → x ≡ y
step_one walk p q = one p.0 q.0

pub next_one : (walk : ParityIter) {x y : Option (Check × Bit)} {w v : ParityIter} → Steps walk x w → Steps walk y v → (x ≡ y) × (w ≡ v)
next_one walk p q = (one p.answers q.answers, one p.moves q.moves)

pub run_at_one : (runs : List EdgeRun) (i : ℕ) {x y : EdgeRun} → x ≡ get_or runs i (run 0 0 0) → y ≡ get_or runs i (run 0 0 0) → x ≡ y
run_at_one runs i p q = one p q

-- what is lent of a struct: the runs of a list of few, the text of an answer
pub as_slice_one : {A : Type 0} (items : List A) {x y : List A} → x ≡ items → y ≡ items → x ≡ y
as_slice_one items p q = one p q

pub meets_one : (code : ℕ) (word : List ℕ) {r s : Result Bool Refusal} → met_by r ≡ met_of code word → met_by s ≡ met_of code word → r ≡ s
meets_one code word {r} {s} p q = by r s (one p q)
  where
    by : (r s : Result Bool Refusal) → met_by r ≡ met_by s → r ≡ s
    by (Ok a) (Ok b) e = ap Ok (ap (λ (x : Met). x.met) e)
    by (Err a) (Err b) e = ap Err (number_decides a b (ap (λ (x : Met). x.answer) e))
    by (Ok a) (Err b) e = let z : 0 ≡ number b = ap (λ (x : Met). x.answer) e in absurd (omega (arith, z, number_above b))
    by (Err a) (Ok b) e = let z : number a ≡ 0 = ap (λ (x : Met). x.answer) e in absurd (omega (arith, z, number_above a))

-- ---- encoder: the answer and the codeword
encoded_parts : {a a' : ℕ} {s s' : List ℕ} → encoded a s ≡ encoded a' s' → (a ≡ a') × (s ≡ s')
encoded_parts e = (ap (λ (x : Encoded). x.answer) e, ap (λ (x : Encoded). x.codeword) e)

pub encode_one : (code : ℕ) (codeword : List ℕ) {a a' : Result ⊤ Refusal} {s s' : List ℕ}
    → encoded (answer_of a) s ≡ encode_outcome code codeword → encoded (answer_of a') s' ≡ encode_outcome code codeword → (a ≡ a') × (s ≡ s')
encode_one code codeword {a} {a'} p q = let e = encoded_parts (one p q) in (answer_decides a a' e.0, e.1)

pub copy_encode_one : (code : ℕ) (message codeword : List ℕ) {a a' : Result ⊤ Refusal} {s s' : List ℕ}
    → encoded (answer_of a) s ≡ copy_encode_outcome code message codeword → encoded (answer_of a') s' ≡ copy_encode_outcome code message codeword
    → (a ≡ a') × (s ≡ s')
copy_encode_one code message codeword {a} {a'} p q = let e = encoded_parts (one p q) in (answer_decides a a' e.0, e.1)

-- ---- bit_flip: the report, the output and the working buffer
pub decode_bf_one : (code : ℕ) (input output working : List ℕ) (limit : ℕ) {r r' : Result Ended Refusal} {o o' w w' : List ℕ}
    → flip.left (report_of r) o w ≡ flip.outcome code input output working limit → flip.left (report_of r') o' w' ≡ flip.outcome code input output working limit
    → (r ≡ r') × (o ≡ o') × (w ≡ w')
decode_bf_one code input output working limit {r} {r'} p q =
    let e = one p q in
    (report_decides r r' (ap (λ (x : flip.Outcome). x.report) e), ap (λ (x : flip.Outcome). x.output) e, ap (λ (x : flip.Outcome). x.working) e)

-- ---- min_sum: the answer and all parts of the messages; the answer and both buffers of the messages; the report, the output and both working buffers; the answer and the buffer that is written
pub new_one : (l : Layout) (llrs w : List ℤ) (rs : List EdgeRun) (marks : List ℕ) {x y : Option (Parts ℤ)}
    → x ≡ lent_as l llrs rs w marks → y ≡ lent_as l llrs rs w marks → x ≡ y
new_one l llrs w rs marks p q = one p q

pub marginals_one : (p : Parts ℤ) {x y : List ℤ} → x ≡ p.marginals → y ≡ p.marginals → x ≡ y
marginals_one p e f = one e f

pub pass_one : (p : Parts ℤ) {b b' : Bool} {q q' : Parts ℤ} → exchange b q ≡ exchanged i8 (restart_parts i8 p) → exchange b' q' ≡ exchanged i8 (restart_parts i8 p)
    → (b ≡ b') × (q ≡ q')
pass_one p e f =
    let g = one e f in
    (ap (λ (x : Exchanged ℤ). x.even) g, ap (λ (x : Exchanged ℤ). x.left) g)

pub exchange_one : (at : Layout) (rs : List EdgeRun) (w : List ℤ) (marks : List ℕ) {b b' : Bool} {v v' : List ℤ} {s s' : List ℕ}
    → anywhere.exchange b (anywhere.buffers v s) ≡ anywhere.exchanged i8 at rs (anywhere.buffers w marks)
    → anywhere.exchange b' (anywhere.buffers v' s') ≡ anywhere.exchanged i8 at rs (anywhere.buffers w marks)
    → (b ≡ b') × (v ≡ v') × (s ≡ s')
exchange_one at rs w marks p q =
    let e = one p q in (
      ap (λ (x : anywhere.Exchanged ℤ). x.even) e,
      ap (λ (x : anywhere.Exchanged ℤ). x.left.working) e,
      ap (λ (x : anywhere.Exchanged ℤ). x.left.marks) e,
    )

pub decode_ms_i8_one : (code : ℕ) (llrs : List ℤ) (output : List ℕ) (working : List ℤ) (signs : List ℕ) (limit : ℕ)
    {r r' : Result Ended Refusal} {o o' : List ℕ} {w w' : List ℤ} {s s' : List ℕ}
    → left (report_of r) o w s ≡ decode_outcome i8 code llrs output working signs limit → left (report_of r') o' w' s' ≡ decode_outcome i8 code llrs output working signs limit
    → (r ≡ r') × (o ≡ o') × (w ≡ w') × (s ≡ s')
decode_ms_i8_one code llrs output working signs limit {r} {r'} p q =
    let e = one p q in (
      report_decides r r' (ap (λ (x : Outcome ℤ). x.report) e),
      ap (λ (x : Outcome ℤ). x.output) e,
      ap (λ (x : Outcome ℤ). x.working) e,
      ap (λ (x : Outcome ℤ). x.working_u8) e,
    )

pub decode_refusal_one : (code llrs output working signs : ℕ) {x y : Result ⊤ Refusal}
    → answer_of x ≡ decode_answer code llrs output working signs → answer_of y ≡ decode_answer code llrs output working signs → x ≡ y
decode_refusal_one code llrs output working signs {x} {y} p q = answer_decides x y (one p q)

pub to_llrs_refusal_one : (code input llrs : ℕ) {x y : Result ⊤ Refusal} → answer_of x ≡ convert_answer code input ((row_of code).n / 8) llrs (row_of code).n
    → answer_of y ≡ convert_answer code input ((row_of code).n / 8) llrs (row_of code).n → x ≡ y
to_llrs_refusal_one code input llrs {x} {y} p q = answer_decides x y (one p q)

pub to_hard_refusal_one : (code llrs output : ℕ) {x y : Result ⊤ Refusal} → answer_of x ≡ convert_answer code llrs (row_of code).n output ((row_of code).n / 8)
    → answer_of y ≡ convert_answer code llrs (row_of code).n output ((row_of code).n / 8) → x ≡ y
to_hard_refusal_one code llrs output {x} {y} p q = answer_decides x y (one p q)

written_parts : {A : Type 0} {a a' : ℕ} {s s' : List A} → written a s ≡ written a' s' → (a ≡ a') × (s ≡ s')
written_parts {A} e = (ap (λ (x : Written A). x.answer) e, ap (λ (x : Written A). x.buffer) e)

pub hard_to_llrs_i8_one : (code : ℕ) (input : List ℕ) (llrs : List ℤ) {a a' : Result ⊤ Refusal} {s s' : List ℤ}
    → written (answer_of a) s ≡ to_llrs_outcome (negsuc 0) (pos 1) code input llrs → written (answer_of a') s' ≡ to_llrs_outcome (negsuc 0) (pos 1) code input llrs → (a ≡ a') × (s ≡ s')
hard_to_llrs_i8_one code input llrs {a} {a'} p q = let e = written_parts (one p q) in (answer_decides a a' e.0, e.1)

pub llrs_to_hard_i8_one : (code : ℕ) (llrs : List ℤ) (output : List ℕ) {a a' : Result ⊤ Refusal} {s s' : List ℕ}
    → written (answer_of a) s ≡ to_hard_outcome i8 code llrs output → written (answer_of a') s' ≡ to_hard_outcome i8 code llrs output → (a ≡ a') × (s ≡ s')
llrs_to_hard_i8_one code llrs output {a} {a'} p q = let e = written_parts (one p q) in (answer_decides a a' e.0, e.1)

-- ---- labrador_ldpc: the answer, success and iterations, and every buffer that is written
pub ldpc_params_one : (code : ℕ) (to : List ℕ) {a a' : ℕ} {s s' : List ℕ}
    → row a s ≡ params_outcome code to → row a' s' ≡ params_outcome code to → (a ≡ a') × (s ≡ s')
ldpc_params_one code to p q =
    let e = one p q in
    (ap (λ (x : Row). x.answer) e, ap (λ (x : Row). x.numbers) e)

pub ldpc_encode_one : (code : ℕ) (codeword : List ℕ) {a a' : ℕ} {s s' : List ℕ}
    → encoded a s ≡ encode_outcome code codeword → encoded a' s' ≡ encode_outcome code codeword → (a ≡ a') × (s ≡ s')
ldpc_encode_one code codeword p q = encoded_parts (one p q)

pub ldpc_copy_encode_one : (code : ℕ) (message codeword : List ℕ) {a a' : ℕ} {s s' : List ℕ}
    → encoded a s ≡ copy_encode_outcome code message codeword → encoded a' s' ≡ copy_encode_outcome code message codeword → (a ≡ a') × (s ≡ s')
ldpc_copy_encode_one code message codeword p q = encoded_parts (one p q)

pub ldpc_decode_bf_one : (code : ℕ) (input output working : List ℕ) (limit : ℕ) {a a' b b' n n' : ℕ} {o o' w w' : List ℕ}
    → hard a b n o w ≡ hard_door (flip.outcome code input output working limit) → hard a' b' n' o' w' ≡ hard_door (flip.outcome code input output working limit)
    → (a ≡ a') × (b ≡ b') × (n ≡ n') × (o ≡ o') × (w ≡ w')
ldpc_decode_bf_one code input output working limit p q =
    let e = one p q in (
      ap (λ (x : Hard). x.answer) e,
      ap (λ (x : Hard). x.success) e,
      ap (λ (x : Hard). x.iters) e,
      ap (λ (x : Hard). x.output) e,
      ap (λ (x : Hard). x.working) e,
    )

pub ldpc_decode_ms_i8_one : (code : ℕ) (llrs : List ℤ) (output : List ℕ) (working : List ℤ) (signs : List ℕ) (limit : ℕ)
    {a a' b b' n n' : ℕ} {o o' : List ℕ} {w w' : List ℤ} {s s' : List ℕ}
    → soft a b n o w s ≡ soft_door (decode_outcome i8 code llrs output working signs limit)
    → soft a' b' n' o' w' s' ≡ soft_door (decode_outcome i8 code llrs output working signs limit)
    → (a ≡ a') × (b ≡ b') × (n ≡ n') × (o ≡ o') × (w ≡ w') × (s ≡ s')
ldpc_decode_ms_i8_one code llrs output working signs limit p q =
    let e = one p q in (
      ap (λ (x : Soft). x.answer) e,
      ap (λ (x : Soft). x.success) e,
      ap (λ (x : Soft). x.iters) e,
      ap (λ (x : Soft). x.output) e,
      ap (λ (x : Soft). x.working) e,
      ap (λ (x : Soft). x.signs) e,
    )

pub ldpc_hard_to_llrs_i8_one : (code : ℕ) (input : List ℕ) (llrs : List ℤ) {a a' : ℕ} {s s' : List ℤ}
    → written a s ≡ to_llrs_outcome (negsuc 0) (pos 1) code input llrs → written a' s' ≡ to_llrs_outcome (negsuc 0) (pos 1) code input llrs → (a ≡ a') × (s ≡ s')
ldpc_hard_to_llrs_i8_one code input llrs p q = written_parts (one p q)

pub ldpc_llrs_to_hard_i8_one : (code : ℕ) (llrs : List ℤ) (output : List ℕ) {a a' : ℕ} {s s' : List ℕ}
    → written a s ≡ to_hard_outcome i8 code llrs output → written a' s' ≡ to_hard_outcome i8 code llrs output → (a ≡ a') × (s ≡ s')
ldpc_llrs_to_hard_i8_one code llrs output p q = written_parts (one p q)

-- ---- sheet
pub read_one : (text : List ℕ) (r r' : Option Request) → (asked r ≡ read_of text) × (text_number (asked r) ≡ read_answer text)
    → (asked r' ≡ read_of text) × (text_number (asked r') ≡ read_answer text) → asked r ≡ asked r'
read_one text r r' p q = one p.0 q.0

-- ---- cases: the operation that a number is, and the case that a head is
operations_apart : (a b : Operation) → cases.number a ≡ cases.number b → a ≡ b
operations_apart a b e = sym (back a) ∙ ap named e ∙ back b
  where
    named : ℕ → Operation
    named n = get_or (Encoders ∷ BitFlipping ∷ MinSum ∷ HardToLlrs ∷ LlrsToHard ∷ Sheet ∷ []) (n - 1) Encoders

    back : (a : Operation) → named (cases.number a) ≡ a
    back Encoders = refl
    back BitFlipping = refl
    back MinSum = refl
    back HardToLlrs = refl
    back LlrsToHard = refl
    back Sheet = refl

pub operation_one : (n : ℕ) (r s : Result Operation UnknownOperation) → Numbers n r → Numbers n s → r ≡ s
operation_one n (Ok a) (Ok b) p q = ap Ok (operations_apart a b (one p q))
operation_one n (Err e) (Err f) p q = ap Err (one p.1 q.1)
operation_one n (Ok a) (Err f) p q = absurd (q.0 a p)
operation_one n (Err e) (Ok b) p q = absurd (p.0 b q)

pub case_one : (bytes : List ℕ) (r s : Result Case UnknownOperation) → Heads bytes r → Heads bytes s → r ≡ s
case_one bytes (Ok a) (Ok b) p q =
    ap Ok (λ i. record {
      op = one p.op q.op i;
      code = one p.code q.code i;
      limit = one p.limit q.limit i;
      ended = record { success = one p.success q.success i; iters = one p.iters q.iters i };
      text = one p.text q.text i;
      answer = one p.answer q.answer i;
    })
case_one bytes (Err e) (Err f) p q = ap Err (one p.1 q.1)
case_one bytes (Ok a) (Err f) p q = absurd (q.0 p.known.0 (p.known.1 ∙ p.op))
case_one bytes (Err e) (Ok b) p q = absurd (p.0 q.known.0 (q.known.1 ∙ q.op))
