use Rattle.std.proofs.Common.{sym, ◌∙◌, rules}
use Rattle.tables.specs.Tables.{thetas}
use Rattle.runs.proofs.Filled.{runs_none, runs_fitting, runs_filled}
use Rattle.runs.proofs.runs_of.Goals as goal

pub fill-requires : goal.fill-requires
unfolding thetas
fill-requires c = (search rules, runs_fitting c.args.code c.in-Ok.ensures.found _ _ c.phi_of.ensures c.prototype_of.ensures)

pub returns-in-Ok : goal.returns-in-Ok
unfolding thetas
returns-in-Ok c = c.fill.ensures ∙ runs_filled c.args.code c.in-Ok.ensures.found _ _ c.phi_of.ensures c.prototype_of.ensures

pub returns-in_default : goal.returns-in_default
returns-in_default c = c.new-runs.ensures ∙ runs_none c.args.code (sym c.in_default.is ∙ c.params.ensures.found)
