use Rattle.std.proofs.Common.{◌*◌, ◌/◌, length, rules, arith}
use Rattle.maths.specs.Bits.{bit_at}
use Rattle.encoder.specs.Rows.{row_bit}
use Rattle.encoder.proofs.Fitting.{blocks_bits}
use Rattle.encoder.proofs.Staged.{staged_none, staged_more, staged_all}
use Rattle.encoder.proofs.parity.fill_parity.Goals as goal

pub loop-o-init : goal.loop-o-init
loop-o-init c =
    let a = c.args in
    let n = length a.parity.now in
    staged_none n a.b (length a.«data».now * 8 / a.b) (n / (a.b / 8)) (row_bit n a.rows.now) (bit_at a.«data».now) (omega (arith, c.requires.some))
    (blocks_bits n a.b c.requires.parity_blocks c.requires.bytes) (c.fill.ensures.after (search rules))

pub loop-o-preserved : goal.loop-o-preserved
loop-o-preserved c =
    let a = c.args in
    let n = length a.parity.now in
    staged_more n a.b (length a.«data».now * 8 / a.b) (n / (a.b / 8)) (row_bit n a.rows.now) (bit_at a.«data».now) (omega (arith, c.requires.some))
    (blocks_bits n a.b c.requires.parity_blocks c.requires.bytes)
    c.loop-o.invariant c.loop-o-test.true (rw c.loop-o.invariant.long at c.add_rows.ensures) (rw (← c.requires.bytes) at c.rotate_blocks.ensures)

pub returns : goal.returns
returns c =
    let a = c.args in
    let n = length a.parity.now in
    rw (← c.requires.data_blocks) at
    (staged_all n a.b (length a.«data».now * 8 / a.b) (n / (a.b / 8)) (row_bit n a.rows.now) (bit_at a.«data».now) (omega (arith, c.requires.some))
    (blocks_bits n a.b c.requires.parity_blocks c.requires.bytes) c.loop-o.invariant c.loop-o-test.false)
