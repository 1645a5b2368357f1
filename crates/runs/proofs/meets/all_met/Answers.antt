use Rattle.runs.proofs.Parity.{meeting}
use Rattle.runs.proofs.meets.all_met.Goals as goal

pub returns : goal.returns
returns c = search meeting
