-- the rows below c are added whose data bit is set
use Rattle.std.proofs.Common.{length}
use Rattle.maths.specs.Bits.{bit_at}
use Rattle.encoder.specs.Rows.{row_bit}
use Rattle.encoder.proofs.Adding.{Rowed}
use Rattle.encoder.proofs.parity.add_rows.Given as goal

abbrev pub invariant-loop-c : goal.invariant-loop-c
invariant-loop-c l = Rowed l.initial.parity l.b (row_bit (length l.initial.parity) l.rows) (bit_at l.«data») l.o l.c l.parity
