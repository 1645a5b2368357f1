use Rattle.std.proofs.Common.{◌∙◌}
use Rattle.sheet_values.proofs.Words.{begins_is}
use Rattle.sheet_values.proofs.starts_with.Goals as goal

pub returns : goal.returns
returns c = c.starts_with.ensures.value ∙ begins_is c.args.word.now c.args.s.now
