-- the bytes from i on are turned, and the carry is the bit that the byte before them takes in
use Rattle.encoder.proofs.Turning.{Turning}
use Rattle.encoder.proofs.rotation.rotate_bytes.Given as goal

abbrev pub invariant-loop-i : goal.invariant-loop-i
invariant-loop-i l = Turning l.initial.block l.block l.carry l.i
