use Rattle.std.proofs.Common.{arith}
use Rattle.std.proofs.lemmas.Grind.{common_steps}
use Rattle.sheet_text.proofs.Digits.{decimal_short}
use Rattle.sheet_text.proofs.print.Answer.number_line.Goals as goal

pub put_decimal-requires : goal.put_decimal-requires
put_decimal-requires c = let d = decimal_short c.args.n c.ranges.n.fits in grind (arith, common_steps)

pub put_word-requires-2 : goal.put_word-requires-2
put_word-requires-2 c = let d = decimal_short c.args.n c.ranges.n.fits in grind (arith, common_steps)

pub returns-clause-low : goal.returns-clause-low
returns-clause-low c = let d = decimal_short c.args.n c.ranges.n.fits in grind (arith, common_steps)
