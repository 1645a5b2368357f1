use Rattle.min_sum.specs.Confidence.{i8}
use Rattle.min_sum.specs.MinSum.{hard_bits}
use Rattle.min_sum.proofs.Loops.{Packed}
use Rattle.confidence_i8.proofs.llrs.pack.Given as goal

abbrev pub invariant-loop-i : goal.invariant-loop-i
invariant-loop-i l = Packed (hard_bits i8 l.w) l.initial.output l.i l.output
