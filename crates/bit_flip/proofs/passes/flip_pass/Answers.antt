use Rattle.bit_flip.proofs.Passing.{flip_by}
use Rattle.bit_flip.proofs.passes.flip_pass.Goals as goal

pub returns : goal.returns
returns c =
    flip_by c.args.runs.now c.args.bits.now c.args.checks.now _ _ _ _ _ c.flip_bytes.ensures c.largest-top.ensures
    (rw c.runs.view_is at c.give_runs.ensures) c.requires.1 c.requires.0 (rw c.runs.view_is at c.runs.invariant)
