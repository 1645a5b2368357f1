-- The two kinds of report, what a report says in numbers, and what a decoder tells. Assumes nothing.
use Rattle.std.specs.Prelude.{Bool, true, false, List, ℕ, Result, Ok, Err}
use Rattle.codes.specs.declared.refusal.Refusal.{Refusal}
use Rattle.codes.specs.Answers.{number}
use Rattle.report.specs.declared.Ended.{Ended}
use Rattle.report.specs.declared.Report.{Report}

-- "A refusal says success false, iterations 0"
abbrev pub refusal : ℕ → Report
refusal n = record { answer = n; success = false; iters = 0 }

abbrev pub ending : Bool → ℕ → Report
ending b n = record { answer = 0; success = b; iters = n }

-- what a decoder answers, in numbers
abbrev pub report_of : Result Ended Refusal → Report
report_of (Ok e) = ending e.success e.iters
report_of (Err why) = refusal (number why)

-- a report with another success, and with another number of iterations
abbrev pub saying : Bool → Report → Report
saying b r = record { answer = r.answer; success = b; iters = r.iters }

abbrev pub counting : ℕ → Report → Report
counting n r = record { answer = r.answer; success = r.success; iters = n }

-- success as a number
abbrev pub flag : Bool → ℕ
flag true = 1
flag false = 0

-- what a decoder tells: its report and the output
pub record Told : Type 0 where
  pub report : Report
  pub output : List ℕ

abbrev pub told : Report → List ℕ → Told
told r o = record { report = r; output = o }
