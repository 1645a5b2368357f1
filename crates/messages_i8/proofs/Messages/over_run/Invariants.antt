use Rattle.min_sum.proofs.Loops.{Running}
use Rattle.messages_i8.proofs.Messages.over_run.Given as goal

abbrev pub invariant-loop-i : goal.invariant-loop-i
invariant-loop-i g l = Running g.S.Step.after l.e l.run.check.0 l.run.bit.0 l.run.size l.i l.initial.self l.self
