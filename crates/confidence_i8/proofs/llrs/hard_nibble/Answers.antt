use native.Mathlib.Omega.{arith}
use mir.Syntax.{w8}
use Rattle.min_sum.specs.Confidence.{i8}
use Rattle.min_sum.proofs.HardBits.{packs, nibble}
use Rattle.confidence_i8.proofs.llrs.hard_nibble.Goals as goal

pub returns : goal.returns
returns c = (nibble w8 i8 c.args.w.now c.args.a _ _ _ _ c.bit.ensures c.bit-2.ensures c.bit-3.ensures c.bit-4.ensures (omega arith) (omega arith) (omega arith) (omega arith), search packs)
