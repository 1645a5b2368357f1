use Rattle.std.proofs.Common.{take}
use Rattle.bits.proofs.Loops.{Packing}
use Rattle.bits.proofs.pack.Given as goal

-- the first i bytes are packed, the others are as they were
abbrev pub invariant-loop-i : goal.invariant-loop-i
invariant-loop-i l = Packing l.bits l.n (take l.n l.fn.bytes) l.i l.byte-items
