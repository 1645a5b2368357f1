use Rattle.std.proofs.Common.{arith, rules}
use Rattle.maths.specs.Bits.{bit_at}
use Rattle.encoder.specs.Rows.{added}
use Rattle.encoder.proofs.Grown.{grown_none, grown_all}
use Rattle.encoder.proofs.Adding.{sums, row_more}
use Rattle.encoder.proofs.parity.add_row.Goals as goal

pub loop-i-init : goal.loop-i-init
loop-i-init c = let s = c.args.parity.now in grown_none s (sums s (bit_at c.args.row.now))

pub loop-i-preserved : goal.loop-i-preserved
loop-i-preserved c =
    row_more c.args.parity.now c.args.row.now c.loop-i.invariant (omega arith) (search rules) (c.type_inv.row c.loop-i.i).fits

pub returns : goal.returns
unfolding added
returns c = let s = c.args.parity.now in grown_all s (sums s (bit_at c.args.row.now)) c.loop-i.invariant (omega arith)
