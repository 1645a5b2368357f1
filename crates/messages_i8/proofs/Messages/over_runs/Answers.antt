use Rattle.std.proofs.Common.{arith, ap, ℤ}
use Rattle.min_sum.specs.Working.{Parts}
use Rattle.min_sum.proofs.Loops.{pass_inside, pass_again, pass_ends}
use Rattle.messages_i8.proofs.Messages.over_runs.Goals as goal

pub over_run-requires : goal.over_run-requires
over_run-requires g c = pass_inside c.loop-run.invariant c.self.inside.runs.now (ap (λ (p : Parts ℤ). p.runs) c.self.view_is) c.loop-run-test.true _

pub loop-run-preserved : goal.loop-run-preserved
loop-run-preserved g c = pass_again c.loop-run.invariant c.self.inside.runs.now (ap (λ (p : Parts ℤ). p.runs) c.self.view_is) c.loop-run-test.true _ g.S.Step.keeps c.from-e.ensures (omega arith) c.over_run.ensures

pub returns : goal.returns
returns g c = pass_ends c.loop-run.invariant c.self.inside.runs.now (ap (λ (p : Parts ℤ). p.runs) c.self.view_is) c.loop-run-test.false
