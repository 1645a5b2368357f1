use Prim.Native.Nat.{◌+◌, ◌-◌, ◌*◌}
use Rattle.codes.specs.Blocks.{head_of, blocks_from}
use Rattle.codes.proofs.Blocks.{Asking}
use Rattle.codes.proofs.parity_iter.block_from.Given as goal

-- the first block from the place that is asked is the answer
abbrev pub invariant-loop-row : goal.invariant-loop-row
invariant-loop-row l = Asking l.h (head_of (blocks_from l.h l.fn.from.row l.fn.from.col l.fn.from.layer)) l.row l.col l.layer

-- eight for each cell not yet asked, and one for each layer of this one
abbrev pub decreases-loop-row : goal.decreases-loop-row
decreases-loop-row l = 8 * (44 - (11 * l.row + l.col)) + (3 - l.layer)
