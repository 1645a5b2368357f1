use Rattle.std.proofs.Common.{arith}
use Rattle.std.proofs.lemmas.Grind.{common_steps}
use Rattle.sheet_values.proofs.Hex.{hex_length}
use Rattle.sheet_text.proofs.print.Answer.hex_line.Goals as goal

pub put_word-requires-2 : goal.put_word-requires-2
put_word-requires-2 c = grind (arith, common_steps, hex_length)
