use Prim.Native.Nat.{◌-◌}
use lib.ListN.{length}
use Rattle.cases.proofs.Confidence.{Softening}
use Rattle.cases.proofs.soft.soften.Given as goal

-- the first i confidences are written
abbrev pub invariant-loop-i : goal.invariant-loop-i
invariant-loop-i l = Softening l.bytes l.initial.soft l.i l.soft

abbrev pub decreases-loop-i : goal.decreases-loop-i
decreases-loop-i l = length l.bytes - l.i
