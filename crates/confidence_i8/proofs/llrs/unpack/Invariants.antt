use Rattle.std.proofs.Common.{pos, negsuc}
use Rattle.min_sum.proofs.Loops.{Unpacked}
use Rattle.confidence_i8.proofs.llrs.unpack.Given as goal

abbrev pub invariant-loop-i : goal.invariant-loop-i
invariant-loop-i l = Unpacked (negsuc 0) (pos 1) l.input l.initial.llrs l.i l.llrs
