use Rattle.std.proofs.Common.{eq-eqb, ne_eqb}
use Rattle.scores.specs.Scores.{flip_byte}
use Rattle.scores.proofs.flip_byte.Goals as goal

pub returns-then-x-top : goal.returns-then-x-top
unfolding flip_byte
returns-then-x-top c = rw (eq-eqb _ _ c.if-x-top.true)

pub returns-else-x-top : goal.returns-else-x-top
unfolding flip_byte
returns-else-x-top c = rw (ne_eqb _ _ c.if-x-top.false)
