use Rattle.runs.specs.Runs.{made_of}
use Rattle.std.proofs.Common.{rules}
use Rattle.runs.proofs.Filling.{going_first, going_next, going_less, going_end}
use Rattle.runs.proofs.Runs.fill.Goals as goal

pub loop-found-init : goal.loop-found-init
loop-found-init c = rw c.requires.0 (going_first (made_of c.args.matrix.now) _ c.first_block-found.ensures)

pub loop-found-smaller : goal.loop-found-smaller
loop-found-smaller c =
    going_less (made_of c.args.matrix.now) _ _ c.in-Some.p c.in-Some.is c.loop-found.invariant _ c.next_block-found.ensures

pub loop-found-preserved : goal.loop-found-preserved
loop-found-preserved c =
    going_next (made_of c.args.matrix.now) _ _ c.in-Some.p c.in-Some.is c.loop-found.invariant _ _ c.push_place.ensures c.next_block-found.ensures

pub returns : goal.returns
returns c = search (going_end, rules)
