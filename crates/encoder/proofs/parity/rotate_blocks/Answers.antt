use Rattle.std.proofs.Common.{◌/◌, length, arith}
use native.Mathlib.Nat.{zero-mul}
use Rattle.encoder.proofs.Fitting.{block_low}
use Rattle.encoder.proofs.Grown.{grown_none}
use Rattle.encoder.proofs.Blocks.{turned_all, block_more}
use Rattle.encoder.proofs.parity.rotate_blocks.Goals as goal

pub loop-i-init : goal.loop-i-init
loop-i-init c = let s = c.args.parity.now in rw zero-mul (grown_none s (turned_all s c.args.len))

pub loop-i-preserved : goal.loop-i-preserved
loop-i-preserved c =
    let s = c.args.parity.now in
    let low = block_low c.loop-i.i (length s / c.args.len) c.args.len c.loop-i-test.true in
    block_more s c.args.len c.requires.0 c.loop-i.i _ c.loop-i.invariant (omega (arith, low)) (omega arith) c.rotate_block.ensures
