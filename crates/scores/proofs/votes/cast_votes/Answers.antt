use Rattle.scores.proofs.Casting.{casting}
use Rattle.scores.proofs.votes.cast_votes.Goals as goal

pub returns : goal.returns
returns c = search casting
