-- Two words that meet the equations of a TM code are four sent bits apart. Assumes nothing.
use Prim.Native.Nat.{ℕ, ◌≤◌, ◌<◌}
use Rattle.maths.specs.Sums.{sum_n}
use Rattle.maths.specs.Distance.{unequal}
use Rattle.codes.specs.Codes.{TM, row_of}
use Rattle.codes.specs.Equations.{Meets}
use Rattle.low_weights.proofs.Distances.{words_apart}
use Rattle.tm_distance.proofs.Weights.{least_sent}

module _ (code : ℕ) (tm : TM code) where
  -- two words that meet every equation and differ in a bit that is sent differ in four of these
  pub sent_four : (w w' : ℕ → ℕ) → ((v : ℕ) → w v < 2) → ((v : ℕ) → w' v < 2) → Meets code w → Meets code w'
      → 0 < sum_n (row_of code).n (unequal w w') → 4 ≤ sum_n (row_of code).n (unequal w w')
  sent_four = words_apart code 4 tm.1 (least_sent code tm)
