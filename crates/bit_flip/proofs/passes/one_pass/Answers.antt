use Rattle.bit_flip.proofs.Passing.{pass_goes, passing}
use Rattle.bit_flip.proofs.passes.one_pass.Goals as goal

pub returns-then-largest-eq0 : goal.returns-then-largest-eq0
returns-then-largest-eq0 c = search passing

pub returns : goal.returns
returns c =
    pass_goes c.args.runs.now c.args.bits.now c.syndrome.new.checks _ _ _ c.largest.ensures (rw c.runs.view_is at c.syndrome.ensures) _ _
    c.if-largest-eq0.false c.flip_pass.ensures c.syndrome.auto.checks
