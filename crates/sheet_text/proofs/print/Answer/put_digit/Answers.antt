use Rattle.sheet_text.proofs.Zeros.{digit_written}
use Rattle.sheet_text.proofs.print.Answer.put_digit.Goals as goal

pub invariant_of-self : goal.invariant_of-self
invariant_of-self c = digit_written _ _ c.self.invariant _ _ c.self.view_is c.requires.room
