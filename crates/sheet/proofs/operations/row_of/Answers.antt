use Rattle.std.proofs.Common.{arith}
use Rattle.std.proofs.lemmas.Grind.{common_steps}
use Rattle.codes.proofs.Codes.{bounded}
use Rattle.sheet.proofs.Rooms.{unknown_row}
use Rattle.sheet.proofs.operations.row_of.Goals as goal

pub returns-clause-row : goal.returns-clause-row
returns-clause-row c = let h = unknown_row c.args.code in grind (arith, common_steps)

pub returns-clause-bounded : goal.returns-clause-bounded
returns-clause-bounded c = rw (returns-clause-row c) (bounded c.args.code)
