use Rattle.min_sum.proofs.Loops.{unpacks}
use Rattle.confidence_i8.proofs.llrs.unpack.Goals as goal

pub loop-i-preserved : goal.loop-i-preserved
loop-i-preserved c = search unpacks
