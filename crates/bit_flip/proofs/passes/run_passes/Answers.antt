use Rattle.bit_flip.proofs.Passing.{passing}
use Rattle.bit_flip.proofs.passes.run_passes.Goals as goal

pub returns-then-one_pass : goal.returns-then-one_pass
returns-then-one_pass c = search passing

pub loop-pass-preserved : goal.loop-pass-preserved
loop-pass-preserved c = search passing

pub returns : goal.returns
returns c = search passing
