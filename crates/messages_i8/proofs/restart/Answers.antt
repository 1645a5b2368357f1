use Rattle.std.proofs.Common.{◌≡◌, ◌∙◌, length, arith}
use Rattle.std.proofs.lemmas.Grind.{common_steps}
use Rattle.maths.proofs.Parts.{overlaid_whole}
use Rattle.messages_i8.proofs.restart.Goals as goal

pub returns : goal.returns
returns c =
    let e : c.copy.new.w ≡ c.args.llrs.now = c.copy.ensures ∙ overlaid_whole c.args.llrs.now _ (grind (arith, common_steps)) in
    grind (arith, common_steps)
