-- What a row counts, and the sums over it, fit the arrays and the numbers that hold them. Assumes nothing.
use mathlib.Core.Path.{◌≡◌}
use Prim.Native.Nat.{ℕ, ◌+◌, ◌-◌, ◌*◌, ◌≤◌}
use native.Mathlib.Omega.{arith}
use mir.Syntax.{w64}
use mir.Val.{Fits}
use Rattle.codes.specs.declared.CodeParams.{CodeParams}
use Rattle.std.specs.Prelude.{Ok}
use Rattle.codes.specs.Codes.{row_of, params_at, max_bits, max_checks}
use Rattle.codes.specs.Sound.{Bounded}
use Rattle.codes.proofs.Codes.{bounded, asked_known}

-- the row of a code, and the row that `params` answered
pub row_bounded : (code : ℕ) (row : CodeParams) → row ≡ row_of code → Bounded row
row_bounded code row is = rw is (bounded code)

pub answer_bounded : (code : ℕ) (row : CodeParams) → Ok row ≡ params_at code → Bounded row
answer_bounded code row e = row_bounded code row (asked_known code e).1

module _ (row : CodeParams) (b : Bounded row) where
  pub bits_few : row.n + row.punctured_bits ≤ max_bits
  bits_few = b.bits

  pub data_low : row.k ≤ row.n + row.punctured_bits
  data_low = b.data_low

  pub checks_few : row.n + row.punctured_bits - row.k ≤ max_checks
  checks_few = b.checks

  pub bits_fit : Fits w64 (row.n + row.punctured_bits)
  bits_fit = record { fits = omega (arith, b.bits) }

  pub edges_fit : Fits w64 (2 * row.paritycheck_sum)
  edges_fit = record { fits = omega (arith, b.messages) }

  pub marginals_fit : Fits w64 (2 * row.paritycheck_sum + (row.n + row.punctured_bits))
  marginals_fit = record { fits = omega (arith, b.messages) }

  pub minima_fit : Fits w64 (2 * row.paritycheck_sum + (row.n + row.punctured_bits) + (row.n + row.punctured_bits - row.k))
  minima_fit = record { fits = omega (arith, b.messages) }

pub ruleset bounds = (row_bounded, answer_bounded, bits_few, data_low, checks_few, bits_fit, edges_fit, marginals_fit, minima_fit)
