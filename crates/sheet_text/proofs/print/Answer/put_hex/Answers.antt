use Rattle.std.proofs.Common.{length, length-append, length-drop, ap, arith}
use Rattle.std.proofs.lemmas.Grind.{common_steps}
use Rattle.sheet_values.specs.Spelling.{hex}
use Rattle.sheet_values.proofs.Hex.{hex_length}
use Rattle.sheet_text.proofs.Digits.{hex_next}
use Rattle.sheet_text.proofs.print.Answer.put_hex.Goals as goal

pub put_digit-requires-clause-room : goal.put_digit-requires-clause-room
put_digit-requires-clause-room c = omega (arith, simp (length-append, hex_length, length-drop) at (ap length c.loop-b.invariant))

pub put_digit-requires-in-loop-b-clause-room : goal.put_digit-requires-in-loop-b-clause-room
put_digit-requires-in-loop-b-clause-room c =
    omega (arith, simp (length-append, hex_length, length-drop) at (ap length c.loop-b.invariant), simp length-append at (ap length c.put_digit.ensures))

pub loop-b-preserved : goal.loop-b-preserved
loop-b-preserved c = grind (arith, common_steps, hex_next)

pub returns : goal.returns
unfolding hex
returns c = grind (arith, common_steps)
