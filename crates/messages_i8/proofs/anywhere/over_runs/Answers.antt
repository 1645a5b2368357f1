use Rattle.std.proofs.Common.{arith}
use Rattle.min_sum.proofs.Anywhere.{same_room, pass_begins, pass_inside, pass_again, pass_ends}
use Rattle.messages_i8.proofs.anywhere.over_runs.Goals as goal

pub loop-run-init : goal.loop-run-init
loop-run-init g c = pass_begins c.requires.rest

pub over_run-requires-clause-room : goal.over_run-requires-clause-room
over_run-requires-clause-room g c = same_room c.requires.room c.loop-run.invariant.same

pub over_run-requires-clause-inside : goal.over_run-requires-clause-inside
over_run-requires-clause-inside g c = pass_inside c.loop-run.invariant c.loop-run-test.true _

pub loop-run-preserved : goal.loop-run-preserved
loop-run-preserved g c =
    pass_again c.loop-run.invariant c.loop-run-test.true _ (g.S.StepAt.keeps c.args.at) c.from-e.ensures (omega arith) c.over_run.ensures

pub returns : goal.returns
returns g c = pass_ends c.loop-run.invariant c.loop-run-test.false
