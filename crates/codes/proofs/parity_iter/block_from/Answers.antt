use Rattle.codes.proofs.Blocks.{asking}
use Rattle.codes.proofs.parity_iter.block_from.Goals as goal

pub loop-row-preserved-in-Ends : goal.loop-row-preserved-in-Ends
loop-row-preserved-in-Ends c = search asking

pub loop-row-preserved-in-Empty : goal.loop-row-preserved-in-Empty
loop-row-preserved-in-Empty c = search asking

pub returns-in_default : goal.returns-in_default
returns-in_default c = search asking

pub loop-row-preserved-then-col-eq11 : goal.loop-row-preserved-then-col-eq11
loop-row-preserved-then-col-eq11 c = search asking

pub loop-row-preserved : goal.loop-row-preserved
loop-row-preserved c = search asking
