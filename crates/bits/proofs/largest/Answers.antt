use Rattle.bits.proofs.Loops.{loops}
use Rattle.bits.proofs.largest.Goals as goal

pub loop-x-preserved : goal.loop-x-preserved
loop-x-preserved c = search loops

pub returns : goal.returns
returns c = search loops
