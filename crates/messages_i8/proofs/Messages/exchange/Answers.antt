use Rattle.min_sum.proofs.Pass.{exchanged_by}
use Rattle.messages_i8.proofs.Messages.exchange.Goals as goal

pub returns : goal.returns
returns c = exchanged_by _ _ _ _ _ _ c.is_even.ensures c.over_runs-2.ensures c.renew.ensures c.over_runs.ensures
