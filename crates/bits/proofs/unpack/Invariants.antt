use Rattle.bits.proofs.Loops.{Unpacking}
use Rattle.bits.proofs.unpack.Given as goal

-- the bits of the first i bytes stand there, the others are as they were
abbrev pub invariant-loop-i : goal.invariant-loop-i
invariant-loop-i l = Unpacking l.bytes l.n l.fn.bits l.i l.bits
