use Rattle.std.proofs.Common.{arith, length-take-le}
use Rattle.bits.proofs.Loops.{pack_begins, pack_more}
use Rattle.bits.proofs.pack.Goals as goal

pub loop-i-init : goal.loop-i-init
loop-i-init c = pack_begins (omega (arith, length-take-le c.min-n.result c.args.bytes.now (omega arith)))

pub loop-i-preserved : goal.loop-i-preserved
loop-i-preserved c =
    let long = length-take-le c.min-n.result c.args.bytes.now (omega arith) in
    pack_more c.loop-i.invariant (omega arith) c.pack_byte.ensures
