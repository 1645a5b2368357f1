use Rattle.std.proofs.Common.{◌∙◌, rules}
use Rattle.cases.proofs.Confidence.{signed_is, soften_begins, soften_more, soften_ends}
use Rattle.cases.proofs.soft.soften.Goals as goal

pub loop-i-init : goal.loop-i-init
loop-i-init c = soften_begins _ _ c.if-soft-bytes.true

pub loop-i-preserved : goal.loop-i-preserved
loop-i-preserved c =
    soften_more _ _ _ _ c.loop-i.invariant _ (c.cast_signed.ensures ∙ signed_is _ (search rules)) (search rules) c.loop-i-test.true

pub returns-after-loop-i : goal.returns-after-loop-i
returns-after-loop-i c = soften_ends _ _ _ _ c.loop-i.invariant c.loop-i-test.false
