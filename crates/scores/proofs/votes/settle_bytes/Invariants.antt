use Rattle.maths.proofs.Mapping.{Mapped}
use Rattle.scores.specs.Votes.{settle_byte}
use Rattle.scores.proofs.votes.settle_bytes.Given as goal

-- the first bytes are replaced, the others are as they were
abbrev pub invariant-loop-x : goal.invariant-loop-x
invariant-loop-x l = Mapped 0 settle_byte l.fn.bits l.x-index l.bits
