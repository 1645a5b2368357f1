use Rattle.std.proofs.Common.{arith}
use Rattle.std.proofs.lemmas.Grind.{common_steps}
use Rattle.min_sum.specs.Confidence.{i8}
use Rattle.min_sum.proofs.Anywhere.{taken_by}
use Rattle.messages_i8.proofs.anywhere.take_all.Goals as goal

pub returns : goal.returns
returns c =
    taken_by i8 c.args.at c.args.runs.now c.args.w.now _ c.args.marks.now _ _ _ c.all_even.ensures c.over_runs.ensures
    (grind (arith, common_steps)) c.fill.ensures
