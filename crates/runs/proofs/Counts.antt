-- How many runs a turned identity and the quarters of a permutation have. Assumes nothing.
use Rattle.std.proofs.Common.{ℕ, zero, suc, ◌*◌, ◌/◌, ◌≤◌, eqb, List, length, arith, length-append}
use Rattle.maths.proofs.Tests.{pick_both}
use Rattle.runs.specs.declared.EdgeRun.{EdgeRun}
use Rattle.runs.specs.Runs.{turned_runs, quarter, quarters}

turned_few : (a v turn size : ℕ) → length (turned_runs a v turn size) ≤ 2
unfolding turned_runs
turned_few a v turn size = pick_both (λ (ds : List EdgeRun). length ds ≤ 2) (eqb turn 0) _ _ (omega arith) (omega arith)

module _ (m : ℕ) (theta : List ℕ) (phi : List (List ℕ)) (value a v : ℕ) where
  quarter_few : (j : ℕ) → length (quarter m theta phi value a v j) ≤ 2
  unfolding quarter
  quarter_few j = turned_few _ _ _ (m / 4)

  pub quarters_few : (j : ℕ) → length (quarters m theta phi value a v j) ≤ 2 * j
  unfolding quarters
  quarters_few zero = omega arith
  quarters_few (suc j) = omega (arith, length-append (quarters m theta phi value a v j) (quarter m theta phi value a v j), quarters_few j, quarter_few j)
