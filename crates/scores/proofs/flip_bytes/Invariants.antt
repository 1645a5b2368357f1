use Rattle.maths.proofs.Mapping.{Mapped}
use Rattle.scores.specs.Scores.{flip_byte}
use Rattle.scores.proofs.flip_bytes.Given as goal

-- the first bytes are replaced, the others are as they were
abbrev pub invariant-loop-x : goal.invariant-loop-x
invariant-loop-x l = Mapped 0 (flip_byte l.top) l.fn.bits l.x-index l.bits
