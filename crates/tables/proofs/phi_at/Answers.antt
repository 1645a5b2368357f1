use Rattle.std.proofs.Common.{[]}
use Rattle.tables.specs.Tables.{phis}
use Rattle.tables.proofs.phi_at.Goals as goal

pub returns : goal.returns
unfolding phis
returns c = c.table_at.ensures []
