use Rattle.std.proofs.Common.{◌*◌, ◌<◌, arith, ap, ◌∙◌, length-take-le, get_or-take}
use Rattle.std.proofs.lemmas.List.Edits.{sets}
use Rattle.bits.specs.Packed.{eight}
use Rattle.bits.proofs.Loops.{unpack_begins, unpack_more}
use Rattle.bits.proofs.unpack.Goals as goal

pub loop-i-init : goal.loop-i-init
loop-i-init c = unpack_begins (omega arith)

pub loop-i-preserved : goal.loop-i-preserved
loop-i-preserved c =
    let i = c.loop-i.i in
    let long = length-take-le c.min-n.result c.args.bytes.now (omega arith) in
    let low : i < c.min-n.result = omega arith in
    let same = get_or-take c.min-n.result c.args.bytes.now i 0 low in
    unpack_more c.loop-i.invariant low (c.unpack_byte.ensures ∙ ap (λ x. sets c.loop-i.bits (8 * i) (eight x)) same) c.unpack_byte.auto.bits
