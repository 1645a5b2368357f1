use Rattle.std.proofs.Common.{rules}
use Rattle.runs.specs.Runs.{block_runs}
use Rattle.runs.proofs.Runs.push_place.Goals as goal

pub returns : goal.returns
unfolding block_runs
returns c = search rules
