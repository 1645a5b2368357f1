use Rattle.std.proofs.Common.{append_assoc, rules, ne_eqb}
use Rattle.runs.specs.Runs.{turned_runs}
use Rattle.runs.proofs.Runs.push_turned.Goals as goal

pub returns-then-turn-eq0 : goal.returns-then-turn-eq0
unfolding turned_runs
returns-then-turn-eq0 c = search rules

pub returns : goal.returns
unfolding turned_runs
returns c = search (append_assoc, ne_eqb, rules)
