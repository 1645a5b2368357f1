-- The row of a code, or the row without room where the code is not known, as `unwrap_or_default` finds it; and its walk, or a finished one.
-- Assumes nothing.
use mathlib.Core.Bool.{Bool, true, false, not}
use mathlib.Core.List.{[], ◌∷◌}
use mathlib.Core.Path.{◌≡◌, refl}
use Prim.Native.Nat.{ℕ}
use native.Mathlib.Omega.{arith}
use borrow.Author.Tests.{ltb-false}
use lib.ListN.{get_or-eq_default}
use Rattle.std.specs.Prelude.{Result, Ok, Err, None}
use Rattle.std.specs.Result.{ResultUnwrapsOrElse}
use Rattle.maths.specs.Tests.{pick}
use Rattle.codes.specs.declared.refusal.Refusal.{Refusal}
use Rattle.codes.specs.declared.refusal.Refusal.TheVariants.{UnknownCode}
use Rattle.codes.specs.declared.CodeParams.{CodeParams}
use Rattle.codes.specs.contracts.CodeParamsDefault.TheImpl.{is_default-value}
use Rattle.codes.specs.Answers.{test, first_of, answer_of}
use Rattle.codes.specs.Codes.{codes, known, rows, row, row_of, params_at}
use Rattle.codes.specs.Edges.{blocks_of}
use Rattle.codes.specs.Walk.{start_at, new_of}

-- no code, no room
pub row_unknown : (code : ℕ) → known code ≡ false → row_of code ≡ row 0 0 0 0 0 0
unfolding rows
row_unknown code k = get_or-eq_default rows (row 0 0 0 0 0 0) (ltb-false code codes k)

-- and no edge
pub walk_unknown : (code : ℕ) → known code ≡ false → new_of code ≡ start_at code None
unfolding new_of blocks_of
walk_unknown code k = rw k

pub row_given : (code : ℕ) (p : Result CodeParams Refusal) (r : CodeParams) → p ≡ params_at code → ResultUnwrapsOrElse p is_default-value.it r → r ≡ row_of code
row_given code p r e h = by (known code) refl (rw e at h)
  where
    by : (b : Bool) → known code ≡ b → ResultUnwrapsOrElse (pick b (Ok (row_of code)) (Err UnknownCode)) is_default-value.it r → r ≡ row_of code
    by true k g = g
    by false k g = rw (row_unknown code k) (grind arith)

-- the number that answers for the parameters
answered_by : (code : ℕ) (b : Bool) → answer_of (pick {A = Result CodeParams Refusal} b (Ok (row_of code)) (Err UnknownCode)) ≡ first_of (test (not b) 1 ∷ [])
answered_by code true = refl
answered_by code false = refl

pub answered : (code : ℕ) → answer_of (params_at code) ≡ first_of (test (not (known code)) 1 ∷ [])
answered code = answered_by code (known code)
