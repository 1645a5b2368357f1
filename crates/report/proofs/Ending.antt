-- A report is decided by what it says. Assumes nothing.
use mathlib.Core.Bool.{Bool}
use mathlib.Core.Path.{◌≡◌, ap}
use native.Mathlib.Omega.{arith}
use Rattle.std.specs.Prelude.{Result, Ok, Err}
use Rattle.codes.specs.declared.refusal.Refusal.{Refusal}
use Rattle.codes.specs.Answers.{number}
use Rattle.codes.proofs.Answers.{number_decides, number_above}
use Rattle.report.specs.declared.Ended.{Ended}
use Prim.Native.Nat.{ℕ}
use Rattle.report.specs.declared.Report.{Report}
use Rattle.report.specs.Report.{ending, report_of}

pub is_ending : (r : Report) (success : Bool) (iters : ℕ) → r.answer ≡ 0 → r.success ≡ success → r.iters ≡ iters → r ≡ ending success iters
is_ending r success iters e f g = by r.answer r.success r.iters e f g
  where
    by : (a : ℕ) (s : Bool) (i : ℕ) → a ≡ 0 → s ≡ success → i ≡ iters → record { answer = a; success = s; iters = i } ≡ ending success iters
    by a s i e f g = rw (e, f, g)

-- what a decoder answers is decided by its report
pub report_decides : (x y : Result Ended Refusal) → report_of x ≡ report_of y → x ≡ y
report_decides (Ok a) (Ok b) e = ap Ok (by a.success a.iters b.success b.iters (ap (λ (r : Report). r.success) e) (ap (λ (r : Report). r.iters) e))
  where
    by : (s : Bool) (i : ℕ) (t : Bool) (j : ℕ) → s ≡ t → i ≡ j → ◌≡◌ {A = Ended} (record { success = s; iters = i }) (record { success = t; iters = j })
    by s i t j p q = rw (p, q)
report_decides (Err a) (Err b) e = ap Err (number_decides a b (ap (λ (r : Report). r.answer) e))
report_decides (Ok a) (Err b) e = let z : 0 ≡ number b = ap (λ (r : Report). r.answer) e in absurd (omega (arith, z, number_above b))
report_decides (Err a) (Ok b) e = let z : number a ≡ 0 = ap (λ (r : Report). r.answer) e in absurd (omega (arith, z, number_above a))
