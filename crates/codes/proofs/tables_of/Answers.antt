use mathlib.Core.Path.{refl}
use Rattle.codes.specs.Codes.{tables}
use Rattle.codes.proofs.Codes.{tables_unknown}
use Rattle.codes.proofs.tables_of.Goals as goal

pub returns-then-code-lt-CODES : goal.returns-then-code-lt-CODES
unfolding tables
returns-then-code-lt-CODES c = refl

pub returns-else-code-lt-CODES : goal.returns-else-code-lt-CODES
unfolding tables
returns-else-code-lt-CODES c = rw (tables_unknown _ c.if-code-lt-CODES.false)
