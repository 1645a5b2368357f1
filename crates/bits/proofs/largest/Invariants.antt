use Rattle.bits.proofs.Loops.{Comparing}
use Rattle.bits.proofs.largest.Given as goal

-- the larger of the present top and of the bytes left is the largest of all
abbrev pub invariant-loop-x : goal.invariant-loop-x
invariant-loop-x l = Comparing l.s l.x-index l.top
