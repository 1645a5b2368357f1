use Rattle.std.proofs.Common.{◌≡◌, replicate, sym, ◌∙◌, arith}
use lib.ListN.{length-replicate}
use Rattle.std.proofs.lemmas.Grind.{common_steps}
use Rattle.maths.proofs.Parts.{overlaid_mid, overlaid_not}
use Rattle.confidence_i8.proofs.parts.fill.Goals as goal

pub returns-then-has_room : goal.returns-then-has_room
returns-then-has_room c =
    let a = c.args in
    let e : c.fill.new.self ≡ replicate a.n a.x = grind (arith, common_steps) in
    rw e (overlaid_mid a.from a.n (replicate a.n a.x) a.w.now (length-replicate a.n a.x) (sym c.has_room.ensures ∙ c.if-has_room.true))

pub returns-else-has_room : goal.returns-else-has_room
returns-else-has_room c =
    let a = c.args in
    overlaid_not a.from a.n (replicate a.n a.x) a.w.now (length-replicate a.n a.x) (sym c.has_room.ensures ∙ c.if-has_room.false)
