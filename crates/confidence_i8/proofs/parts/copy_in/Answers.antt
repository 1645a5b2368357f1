use mathlib.Core.Path.{refl}
use native.Mathlib.Omega.{arith}
use lib.IntN.{pos}
use Rattle.min_sum.proofs.Signed.{numbers}
use Rattle.maths.proofs.Copying.{copied_none, copied_more, copied_all}
use Rattle.confidence_i8.proofs.parts.copy_in.Goals as goal

pub loop-i-init : goal.loop-i-init
loop-i-init c = (refl, copied_none (pos 0) c.args.xs.now c.args.w.now c.requires)

pub loop-i-preserved : goal.loop-i-preserved
loop-i-preserved c =
    (c.loop-i.invariant.0, copied_more (pos 0) c.args.xs.now c.args.w.now c.requires c.loop-i.invariant.1 (omega (arith, c.loop-i.invariant.0)) (search numbers))

pub returns : goal.returns
returns c = copied_all (pos 0) c.args.xs.now c.args.w.now c.requires c.loop-i.invariant.1 (omega (arith, c.loop-i.invariant.0))
