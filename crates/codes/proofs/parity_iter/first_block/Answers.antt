use mathlib.Core.Path.{ap, ◌∙◌}
use Rattle.codes.specs.Blocks.{head_of}
use Rattle.codes.proofs.Blocks.{from_first}
use Rattle.codes.proofs.parity_iter.first_block.Goals as goal

pub returns : goal.returns
returns c = c.block_from.ensures ∙ ap head_of (from_first _)
