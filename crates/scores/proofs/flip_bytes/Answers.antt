use Rattle.maths.proofs.Mapping.{maps}
use Rattle.scores.proofs.flip_bytes.Goals as goal

pub loop-x-init : goal.loop-x-init
loop-x-init c = search maps

pub loop-x-preserved : goal.loop-x-preserved
loop-x-preserved c = search maps

pub returns : goal.returns
returns c = search maps
