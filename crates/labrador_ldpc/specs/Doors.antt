-- What the functions for other languages leave behind: the library's own outcomes, with the report in numbers. Assumes nothing.
use Rattle.std.specs.Prelude.{not, List, [], ◌∷◌, ℕ, eqb, ℤ, length}
use Rattle.maths.specs.Tests.{pick}
use Rattle.codes.specs.Answers.{test, first_of, unlike}
use Rattle.codes.specs.Codes.{known, row_of, numbers}
use Rattle.report.specs.Report.{flag}
use Rattle.bit_flip.specs.Outcome as flips
use Rattle.min_sum.specs.Outcomes.{Outcome}

-- a code's ten numbers
pub record Row : Type 0 where
  pub answer : ℕ
  pub numbers : List ℕ

abbrev pub row : ℕ → List ℕ → Row
row n xs = record { answer = n; numbers = xs }

-- 1 is tested before 3; ten numbers are written wherever there is room for ten, zeros for an unknown code
abbrev pub params_outcome : ℕ → List ℕ → Row
params_outcome code to =
    row (first_of (test (not (known code)) 1 ∷ test (unlike (length to) 10) 3 ∷ [])) (pick (eqb (length to) 10) (numbers (row_of code)) to)

-- what bit flipping leaves
pub record Hard : Type 0 where
  pub answer : ℕ
  pub success : ℕ
  pub iters : ℕ
  pub output : List ℕ
  pub working : List ℕ

abbrev pub hard : ℕ → ℕ → ℕ → List ℕ → List ℕ → Hard
hard a b n o w = record { answer = a; success = b; iters = n; output = o; working = w }

abbrev pub hard_door : flips.Outcome → Hard
hard_door x = hard x.report.answer (flag x.report.success) x.report.iters x.output x.working

-- what min-sum leaves
pub record Soft : Type 0 where
  pub answer : ℕ
  pub success : ℕ
  pub iters : ℕ
  pub output : List ℕ
  pub working : List ℤ
  pub signs : List ℕ

abbrev pub soft : ℕ → ℕ → ℕ → List ℕ → List ℤ → List ℕ → Soft
soft a b n o w s = record { answer = a; success = b; iters = n; output = o; working = w; signs = s }

abbrev pub soft_door : Outcome ℤ → Soft
soft_door x = soft x.report.answer (flag x.report.success) x.report.iters x.output x.working x.working_u8
