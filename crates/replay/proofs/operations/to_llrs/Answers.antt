use Rattle.std.proofs.Common.{pos}
use lib.IntN.{ℤ}
use Rattle.codes.specs.Codes.{max_sent}
use Rattle.replay.proofs.Lent.{lent_is}
use Rattle.replay.proofs.operations.to_llrs.Goals as goal

pub returns : goal.returns
returns c = rw (lent_is {A = ℤ} max_sent (pos 0) _ c.min-n.ensures) at c.to_llrs_on.ensures.agrees
