-- the first i bytes are added
use Rattle.maths.specs.Bits.{bit_at}
use Rattle.encoder.proofs.Grown.{Grown}
use Rattle.encoder.proofs.Adding.{sums}
use Rattle.encoder.proofs.parity.add_row.Given as goal

abbrev pub invariant-loop-i : goal.invariant-loop-i
invariant-loop-i l = Grown l.initial.parity (sums l.initial.parity (bit_at l.row)) l.i l.parity
