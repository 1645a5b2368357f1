use Rattle.std.proofs.Common.{arith, w8}
use Rattle.std.proofs.lemmas.Int.{to_z-of_z}
use Rattle.min_sum.proofs.Signed.{back, sign, bits_same, bits_differ}
use Rattle.confidence_i8.proofs.new_u.Goals.{then-magnitude-first, else-magnitude-first}
use Rattle.confidence_i8.proofs.new_u.Goals as goal

pub returns : goal.returns
returns c =
    elim c.if-magnitude-first.branch [
      | then-magnitude-first w ↦ let e = bits_same w8 c.magnitude.result c.args.first c.magnitude.type_inv c.ranges.first w.if-magnitude-first.true in grind (arith, to_z-of_z, back, sign)
      | else-magnitude-first w ↦ let e = bits_differ w8 c.magnitude.result c.args.first c.magnitude.type_inv c.ranges.first w.if-magnitude-first.false in grind (arith, to_z-of_z, back, sign)
    ]
