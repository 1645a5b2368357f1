use Rattle.std.proofs.Common.{arith, w8}
use Rattle.std.proofs.lemmas.Int.{to_z-of_z}
use Rattle.min_sum.proofs.Signed.{back, sign, zero_same}
use Rattle.confidence_i8.proofs.new_v.Goals.{then-v-eq0, else-v-eq0}
use Rattle.confidence_i8.proofs.new_v.Goals as goal

pub returns-else-x-v : goal.returns-else-x-v
returns-else-x-v c =
    let e = zero_same w8 c.args.v c.ranges.v in
    elim c.if-v-eq0.branch [
      | then-v-eq0 w ↦ let h = w.if-v-eq0.true in grind (arith, to_z-of_z, back, sign)
      | else-v-eq0 w ↦ let h = w.if-v-eq0.false in grind (arith, to_z-of_z, back, sign)
    ]
