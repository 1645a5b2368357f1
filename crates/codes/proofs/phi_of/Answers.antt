use Rattle.codes.proofs.phi_of.Goals as goal

pub returns : goal.returns
returns c = rw (c.phi_at.ensures, c.tables_of.ensures)
