use Rattle.min_sum.proofs.Loops.{Passing}
use Rattle.messages_i8.proofs.Messages.over_runs.Given as goal

abbrev pub invariant-loop-run : goal.invariant-loop-run
invariant-loop-run g l = Passing g.S.Step.after l.e l.run-index l.initial.self l.self
