use Rattle.std.proofs.Common.{rules}
use Rattle.runs.proofs.Tally.{added}
use Rattle.runs.proofs.meets.syndrome.Goals as goal

pub returns : goal.returns
returns c = search (added, rules)
