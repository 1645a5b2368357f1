use Rattle.min_sum.specs.Confidence.{i8}
use Rattle.min_sum.proofs.Loops.{Trying}
use Rattle.min_sum_i8.proofs.passes.run_passes.Given as goal

abbrev pub invariant-loop-pass : goal.invariant-loop-pass
invariant-loop-pass l = Trying i8 l.limit l.pass l.initial.messages l.messages
