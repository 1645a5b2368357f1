use Rattle.runs.proofs.Loops.{sweeps}
use Rattle.runs.proofs.steps.put_at_bits.Goals as goal

pub loop-run-init : goal.loop-run-init
loop-run-init g c = search sweeps

pub loop-run-preserved : goal.loop-run-preserved
loop-run-preserved g c = search sweeps

pub returns : goal.returns
returns g c = search sweeps
