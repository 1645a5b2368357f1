use Rattle.std.proofs.Common.{◌≡◌, length, refl, sym, ◌∙◌, arith}
use Rattle.std.proofs.lemmas.Grind.{common_steps}
use Rattle.maths.proofs.Copying.{copied_whole}
use Rattle.maths.proofs.Parts.{overlaid_mid, overlaid_not}
use Rattle.confidence_i8.proofs.parts.copy.Goals as goal

pub returns-then-has_room : goal.returns-then-has_room
returns-then-has_room c =
    let a = c.args in
    let e : c.copy_in.new.w ≡ a.xs.now = copied_whole a.xs.now _ (grind (arith, common_steps)) c.copy_in.ensures in
    rw e (overlaid_mid a.from (length a.xs.now) a.xs.now a.w.now refl (sym c.has_room.ensures ∙ c.if-has_room.true))

pub returns-else-has_room : goal.returns-else-has_room
returns-else-has_room c = let a = c.args in overlaid_not a.from (length a.xs.now) a.xs.now a.w.now refl (sym c.has_room.ensures ∙ c.if-has_room.false)
