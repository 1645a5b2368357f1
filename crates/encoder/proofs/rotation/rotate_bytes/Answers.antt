use Rattle.std.proofs.Common.{refl, rules}
use Rattle.encoder.proofs.Turning.{turning_first, turning_next, turning_last}
use Rattle.encoder.proofs.rotation.rotate_bytes.Goals as goal

pub loop-i-init : goal.loop-i-init
loop-i-init c = turning_first c.args.block.now c.requires (search rules)

pub loop-i-preserved : goal.loop-i-preserved
loop-i-preserved c = turning_next c.args.block.now c.requires c.loop-i.invariant c.loop-i-test.true _ refl (search rules)

pub returns : goal.returns
returns c = turning_last c.args.block.now c.requires c.loop-i.invariant c.loop-i-test.false
