use Rattle.min_sum.specs.Anywhere.{buffers}
use Rattle.min_sum.proofs.Anywhere.{Passing}
use Rattle.messages_i8.proofs.anywhere.over_runs.Given as goal

abbrev pub invariant-loop-run : goal.invariant-loop-run
invariant-loop-run g l =
    Passing (g.S.StepAt.after l.at) l.at l.runs l.e l.run-index (buffers l.initial.w l.initial.marks) (buffers l.w l.marks)
