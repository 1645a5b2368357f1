use Rattle.min_sum.proofs.Loops.{try_stop, try_more, try_out}
use Rattle.min_sum_i8.proofs.passes.run_passes.Goals as goal

pub returns-then-pass-clause-ran : goal.returns-then-pass-clause-ran
returns-then-pass-clause-ran c = try_stop c.loop-pass.invariant _ _ c.loop-pass-test.true c.pass.ensures.turn c.if-pass.true

pub loop-pass-preserved : goal.loop-pass-preserved
loop-pass-preserved c = try_more c.loop-pass.invariant _ _ c.loop-pass-test.true c.pass.ensures.turn c.if-pass.false c.pass.ensures.alike

pub returns-clause-ran : goal.returns-clause-ran
returns-clause-ran c = try_out c.loop-pass.invariant c.loop-pass-test.false
