use Rattle.std.proofs.Common.{[]}
use Rattle.tables.specs.Tables.{prototypes}
use Rattle.tables.proofs.prototype_at.Goals as goal

pub returns : goal.returns
unfolding prototypes
returns c = c.table_at.ensures []
