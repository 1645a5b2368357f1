use mathlib.Core.Path.{◌≡◌}
use Prim.Native.Nat.{◌/◌, ◌%◌}
use lib.Dec.{eqb}
use lib.ListN.{get_or}
use Rattle.maths.specs.Tests.{below}
use Rattle.min_sum.proofs.marks.all_even.Given as goal

abbrev pub invariant-loop-mark : goal.invariant-loop-mark
invariant-loop-mark l = eqb (l.joined / 2 % 2) 0 ≡ below l.mark-index (λ a. eqb (get_or l.marks a 0 / 2 % 2) 0)
