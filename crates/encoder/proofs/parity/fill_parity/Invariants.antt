-- after o offsets the part holds what these have added, each turned left once for every offset since
use Rattle.std.proofs.Common.{◌*◌, ◌/◌, length}
use Rattle.maths.specs.Bits.{bit_at}
use Rattle.encoder.specs.Rows.{row_bit}
use Rattle.encoder.proofs.Staged.{Staged}
use Rattle.encoder.proofs.parity.fill_parity.Given as goal

abbrev pub invariant-loop-o : goal.invariant-loop-o
invariant-loop-o l = Staged (length l.fn.parity) l.b (length l.«data» * 8 / l.b) (row_bit (length l.fn.parity) l.rows) (bit_at l.«data») l.o l.parity
