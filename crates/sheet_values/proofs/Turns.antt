-- The loop that reads a number from the front: why what holds at a turn holds at the next, and what is so at the end. Assumes nothing.
use Rattle.std.proofs.Common.{◌≡◌, ℕ, ◌+◌, ◌*◌, ◌<◌, ◌≤◌, List, ◌∷◌, Some, None, arith}
use Rattle.std.proofs.lemmas.Bool.Decides.{nat_tests}
use Rattle.sheet_values.specs.Spelling.{largest}
use Rattle.sheet_values.specs.Values.{decimal_value, number_from}

-- a number's next digit is none, makes it too large, or is taken
module _ (n b : ℕ) (s : List ℕ) where
  pub number_stops : decimal_value b ≡ None → number_from n (b ∷ s) ≡ None
  unfolding number_from
  number_stops e = rw e

  module _ (d : ℕ) (e : decimal_value b ≡ Some d) where
    pub number_large : largest < 10 * n + d → number_from n (b ∷ s) ≡ None
    unfolding number_from
    number_large h = rw e (grind (arith, nat_tests))

    pub number_more : 10 * n + d ≤ largest → number_from n (b ∷ s) ≡ number_from (10 * n + d) s
    unfolding number_from
    number_more h = rw e (grind (arith, nat_tests))
