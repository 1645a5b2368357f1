use Rattle.maths.proofs.Mapping.{Mapped}
use Rattle.scores.specs.Votes.{vote_byte}
use Rattle.scores.proofs.votes.vote_bytes.Given as goal

-- the first bytes are replaced, the others are as they were
abbrev pub invariant-loop-x : goal.invariant-loop-x
invariant-loop-x l = Mapped 0 vote_byte l.fn.checks l.x-index l.checks
