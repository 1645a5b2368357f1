use Rattle.std.proofs.Common.{arith}
use Rattle.std.proofs.lemmas.Grind.{common_steps}
use Rattle.sheet_values.proofs.Decimals.{decimal_digit, decimal_more, decimal_long, decimal_longer}
use Rattle.sheet_text.proofs.print.Answer.+put_decimal.Goals as goal
use Rattle.sheet_text.proofs.print.Answer.+put_decimal.Goals.{then-n-ge10, else-n-ge10}

pub put_decimal-requires : goal.put_decimal-requires
put_decimal-requires t c = (omega arith, omega (arith, decimal_longer c.args.n c.if-n-ge10.true))

pub put_digit-requires-clause-room : goal.put_digit-requires-clause-room
put_digit-requires-clause-room t c =
    elim c.if-n-ge10.branch [
      | then-n-ge10 w ↦ let d = decimal_longer c.args.n w.if-n-ge10.true in grind (arith, common_steps)
      | else-n-ge10 w ↦ let d = decimal_long c.args.n in grind (arith, common_steps)
    ]

pub returns : goal.returns
returns t c =
    elim c.if-n-ge10.branch [
      | then-n-ge10 w ↦ let d = decimal_more c.args.n w.if-n-ge10.true in grind (arith, common_steps)
      | else-n-ge10 w ↦ let d = decimal_digit c.args.n w.if-n-ge10.false in grind (arith, common_steps)
    ]
