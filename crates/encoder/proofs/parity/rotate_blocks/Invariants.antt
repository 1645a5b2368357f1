-- the first i blocks are turned, and the rest is as it was
use Prim.Native.Nat.{◌*◌}
use Rattle.encoder.proofs.Grown.{Grown}
use Rattle.encoder.proofs.Blocks.{turned_all}
use Rattle.encoder.proofs.parity.rotate_blocks.Given as goal

abbrev pub invariant-loop-i : goal.invariant-loop-i
invariant-loop-i l = Grown l.initial.parity (turned_all l.initial.parity l.len) (l.i * l.len) l.parity
