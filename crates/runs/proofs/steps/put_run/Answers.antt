use Rattle.runs.specs.Steps.{over_run}
use Rattle.runs.proofs.Loops.{sweeps}
use Rattle.runs.proofs.steps.put_run.Goals as goal

pub returns-then-not-lies_within : goal.returns-then-not-lies_within
unfolding over_run
returns-then-not-lies_within g c = search sweeps

pub loop-i-init : goal.loop-i-init
loop-i-init g c = search sweeps

pub loop-i-preserved : goal.loop-i-preserved
loop-i-preserved g c = search sweeps

pub returns : goal.returns
returns g c = search sweeps
