use Rattle.sheet_text.proofs.Zeros.{word_written}
use Rattle.sheet_text.proofs.print.Answer.put_word.Goals as goal

pub invariant_of-self : goal.invariant_of-self
invariant_of-self c = word_written _ _ c.self.invariant c.args.word.now _ _ c.self.view_is c.requires c.copy_from_slice.ensures.after
