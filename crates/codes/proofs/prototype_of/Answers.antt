use Rattle.codes.proofs.prototype_of.Goals as goal

pub returns : goal.returns
returns c = rw (c.prototype_at.ensures, c.tables_of.ensures)
