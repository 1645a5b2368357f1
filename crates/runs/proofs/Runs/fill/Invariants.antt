use Rattle.std.proofs.Common.{length}
use Rattle.codes.specs.Blocks.{rest_of}
use Rattle.runs.specs.Runs.{made_of}
use Rattle.runs.proofs.Filling.{Going}
use Rattle.runs.proofs.Runs.fill.Given as goal

abbrev pub invariant-loop-found : goal.invariant-loop-found
invariant-loop-found l = Going (made_of l.matrix) l.self l.found

-- the blocks left
abbrev pub decreases-loop-found : goal.decreases-loop-found
decreases-loop-found l = length (rest_of l.matrix.prototype.now l.found)
