-- The messages together with the parity of each check, as the second loop of a pass finds both. Assumes nothing.
use mathlib.Core.Bool.{Bool, false, not}
use mathlib.Core.List.{List, map}
use Prim.Native.Nat.{ℕ, ◌/◌, ◌%◌}
use lib.Dec.{eqb}
use lib.ListN.{get_or, set}
use Rattle.maths.specs.Tests.{pick}
use Rattle.min_sum.specs.Confidence.{Confidence}
use Rattle.min_sum.specs.MinSum.{Link, Messages, at, take_message}
use Rattle.min_sum.specs.Working.{Parts, held}

abbrev pub odd_in : ℕ → Bool
odd_in b = eqb (b / 2 % 2) 1

-- the messages, and the parity of the marginals' hard bits at each check over the edges that were taken
pub record Checked (C : Type 0) : Type 0 where
  pub messages : Messages C
  pub odd : List Bool

unfoldable pub held_checked : {C : Type 0} → Parts C → Checked C
held_checked p = record { messages = held p; odd = map odd_in p.marks }

unfoldable pub take_checked : {C : Type 0} → Confidence C → Link → Checked C → Checked C
take_checked o e x =
    let odd = get_or x.odd e.check false in
    record {
      messages = take_message o e x.messages;
      odd = set x.odd e.check (pick (o.hard (at o x.messages.marginals e.bit)) (not odd) odd);
    }
