use Rattle.std.proofs.Common.{arith}
use Rattle.min_sum.proofs.Anywhere.{same_room, run_begins, run_again, run_ends}
use Rattle.messages_i8.proofs.anywhere.over_run.Goals as goal

pub loop-i-init : goal.loop-i-init
loop-i-init g c = run_begins

pub step-requires-clause-room : goal.step-requires-clause-room
step-requires-clause-room g c = same_room c.requires.room c.loop-i.invariant.same

pub loop-i-preserved : goal.loop-i-preserved
loop-i-preserved g c = run_again c.loop-i.invariant (g.S.StepAt.keeps c.args.at) (omega (arith, c.from-i-end.ensures)) c.step.ensures

pub returns : goal.returns
returns g c = run_ends c.loop-i.invariant (omega (arith, c.from-i-end.ensures))
