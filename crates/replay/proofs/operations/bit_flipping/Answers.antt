use Rattle.std.proofs.Common.{ℕ}
use Rattle.codes.specs.Codes.{max_bits}
use Rattle.replay.proofs.Lent.{lent_is}
use Rattle.replay.proofs.operations.bit_flipping.Goals as goal

pub returns : goal.returns
returns c = rw (lent_is {A = ℕ} max_bits 0 _ c.min-w.ensures) at c.bit_flipping_on.ensures.compared
