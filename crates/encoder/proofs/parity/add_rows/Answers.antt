use Rattle.std.proofs.Common.{length, sym, ◌∙◌, arith}
use Rattle.maths.specs.Bits.{bit_at}
use Rattle.encoder.specs.Rows.{row_bit}
use Rattle.encoder.proofs.Adding.{rowed_none, rowed_set, rowed_clear, row_part, clear_bit}
use Rattle.encoder.proofs.parity.add_rows.Goals as goal
use Rattle.encoder.proofs.parity.add_rows.Goals.{then-bit_at-eq1, else-bit_at-eq1}

pub loop-c-init : goal.loop-c-init
loop-c-init c =
    let a = c.args in
    rowed_none a.parity.now a.b (row_bit (length a.parity.now) a.rows.now) (bit_at a.«data».now) a.o (λ i l. (c.type_inv.parity i).fits)

pub loop-c-preserved : goal.loop-c-preserved
loop-c-preserved c =
    let a = c.args in
    let s = a.parity.now in
    let G = row_bit (length s) a.rows.now in
    let d = bit_at a.«data».now in
    let r = c.loop-c.invariant in
    let bit = c.bit_at.ensures in
    elim c.if-bit_at-eq1.branch [
      | then-bit_at-eq1 w ↦
          rowed_set s a.b G d a.o r (sym bit ∙ w.if-bit_at-eq1.true) _ (w.parity-is ∙ w.add_row.ensures) (row_part a.rows.now c.loop-c.c (length s) _ (omega arith))
      | else-bit_at-eq1 w ↦ rw w.parity-is (rowed_clear s a.b G d a.o r (clear_bit a.«data».now _ (λ e. w.if-bit_at-eq1.false (bit ∙ e))))
    ]
