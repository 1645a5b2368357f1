use Rattle.std.proofs.Common.{arith}
use Rattle.min_sum.proofs.Loops.{run_again, run_ends}
use Rattle.messages_i8.proofs.Messages.over_run.Goals as goal

pub loop-i-preserved : goal.loop-i-preserved
loop-i-preserved g c = run_again c.loop-i.invariant g.S.Step.keeps (omega (arith, c.from-i-end.ensures)) c.at.ensures

pub returns : goal.returns
returns g c = run_ends c.loop-i.invariant (omega (arith, c.from-i-end.ensures))
