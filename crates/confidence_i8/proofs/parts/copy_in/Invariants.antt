use mathlib.Core.Path.{◌≡◌}
use lib.ListN.{length}
use Rattle.maths.proofs.Copying.{Copied}
use Rattle.confidence_i8.proofs.parts.copy_in.Given as goal

abbrev pub invariant-loop-i : goal.invariant-loop-i
invariant-loop-i l = (l.i-end ≡ length l.xs) × Copied l.xs l.initial.w l.i l.w
