use Rattle.min_sum.specs.MinSum.{hard_bits}
use Rattle.min_sum.specs.Confidence.{i8}
use Rattle.min_sum.proofs.HardBits.{halves}
use Rattle.confidence_i8.proofs.llrs.hard_byte.Goals as goal

pub returns : goal.returns
returns c = let a = c.args in halves (hard_bits i8 a.w.now) a.a _ _ c.hard_nibble.ensures c.hard_nibble-2.ensures
