use Rattle.min_sum.specs.Confidence.{i8}
use Rattle.min_sum.proofs.Pass.{passed_by, turn_by, alike_by}
use Rattle.messages_i8.proofs.Messages.pass.Goals as goal

pub returns-clause-passed : goal.returns-clause-passed
returns-clause-passed c = passed_by i8 _ _ _ _ _ c.self.view_is c.self.invariant c.restart.ensures c.exchange.ensures

pub returns-clause-turn : goal.returns-clause-turn
returns-clause-turn c = turn_by i8 _ _ _ _ _ c.self.view_is c.self.invariant c.restart.ensures c.exchange.ensures

pub returns-clause-alike : goal.returns-clause-alike
returns-clause-alike c = alike_by i8 _ _ _ _ _ c.self.view_is c.self.invariant c.restart.ensures c.exchange.ensures
