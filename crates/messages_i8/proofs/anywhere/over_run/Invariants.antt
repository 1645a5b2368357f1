use Rattle.min_sum.specs.Anywhere.{buffers}
use Rattle.min_sum.proofs.Anywhere.{Running}
use Rattle.messages_i8.proofs.anywhere.over_run.Given as goal

abbrev pub invariant-loop-i : goal.invariant-loop-i
invariant-loop-i g l =
    Running (g.S.StepAt.after l.at) l.e l.run.check.0 l.run.bit.0 l.run.size l.i (buffers l.initial.w l.initial.marks) (buffers l.w l.marks)
