use Rattle.std.proofs.Common.{◌+◌, drop, sym, ◌∙◌, arith}
use Rattle.std.proofs.lemmas.Grind.{common_steps}
use Rattle.sheet_values.proofs.Turns.{number_stops, number_large, number_more}
use Rattle.sheet_values.proofs.number_from.Goals as goal

pub returns-in_err-d : goal.returns-in_err-d
returns-in_err-d c = grind (arith, common_steps, number_stops)

pub returns-in_err-checked_mul : goal.returns-in_err-checked_mul
returns-in_err-checked_mul c = grind (arith, common_steps, number_large)

pub returns-in_err-n : goal.returns-in_err-n
returns-in_err-n c = grind (arith, common_steps, number_large)

pub loop-b-preserved : goal.loop-b-preserved
loop-b-preserved c =
    let d = number_more c.loop-b.n _ (drop (c.loop-b.b-index + 1) c.args.v.now) c.in_ok-d.d (sym c.decimal_value.ensures ∙ c.in_ok-d.was) (omega (arith, c.in_ok-n.ensures, c.in_ok-checked_mul.ensures)) in
    grind (arith, common_steps)

pub returns : goal.returns
unfolding Rattle.sheet_values.specs.Values.number_from
returns c = grind (arith, common_steps)
