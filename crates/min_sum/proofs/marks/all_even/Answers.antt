use Rattle.min_sum.proofs.Parity.{even_more}
use Rattle.min_sum.proofs.marks.all_even.Goals as goal

pub loop-mark-preserved : goal.loop-mark-preserved
loop-mark-preserved c = even_more c.args.marks.now c.loop-mark.joined c.loop-mark.mark-index c.loop-mark.invariant
