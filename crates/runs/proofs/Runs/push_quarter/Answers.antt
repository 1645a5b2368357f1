use Rattle.std.proofs.Common.{rules}
use Rattle.runs.specs.Runs.{quarter}
use Rattle.runs.proofs.Runs.push_quarter.Goals as goal

pub returns : goal.returns
unfolding quarter
returns c = search rules
