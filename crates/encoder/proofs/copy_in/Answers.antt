use mathlib.Core.Path.{refl}
use native.Mathlib.Omega.{arith}
use Rattle.maths.proofs.Copying.{copied_none, copied_more, copied_all}
use Rattle.encoder.proofs.copy_in.Goals as goal

pub loop-i-init : goal.loop-i-init
loop-i-init c = (refl, copied_none 0 c.args.«data».now c.args.codeword.now c.requires)

pub loop-i-preserved : goal.loop-i-preserved
loop-i-preserved c =
    (c.loop-i.invariant.0, copied_more 0 c.args.«data».now c.args.codeword.now c.requires c.loop-i.invariant.1 (omega (arith, c.loop-i.invariant.0)) refl)

pub returns : goal.returns
returns c = copied_all 0 c.args.«data».now c.args.codeword.now c.requires c.loop-i.invariant.1 (omega (arith, c.loop-i.invariant.0))
