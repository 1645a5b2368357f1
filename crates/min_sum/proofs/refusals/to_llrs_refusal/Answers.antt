use Rattle.std.proofs.Common.{lt-ltb, ◌∙◌, ap}
use Rattle.std.proofs.lemmas.Result.{err_from_is_err_and}
use Rattle.codes.specs.Answers.{answer_of}
use Rattle.codes.specs.Codes.{codes}
use Rattle.codes.proofs.Answers.{refuses, passes}
use Rattle.codes.proofs.Codes.{asked_known, asked_unknown}
use Rattle.min_sum.specs.Outcomes.{convert_answer}
use Rattle.min_sum.proofs.Answers.{answer_checked}
use Rattle.min_sum.proofs.refusals.to_llrs_refusal.Goals as goal

pub returns-in_err-row : goal.returns-in_err-row
unfolding convert_answer
returns-in_err-row c =
    let p = err_from_is_err_and c.from_residual.result c.from_residual.ensures.1 in
    let k = asked_unknown c.args.code c.in_err-row.ensures.found in
    rw (p.1, p.2, k.0, k.1)

pub returns-in_err-check_length : goal.returns-in_err-check_length
unfolding convert_answer
returns-in_err-check_length c =
    let p = err_from_is_err_and c.from_residual-in_err-check_length.result c.from_residual-in_err-check_length.ensures.1 in
    let k = asked_known c.args.code c.in_ok-row.ensures.found in
    let r = refuses _ _ c.in_err-check_length.ensures in
    rw (p.1, p.2, r.1, lt-ltb c.args.code codes k.0, rw k.1 at r.0)

pub returns : goal.returns
unfolding convert_answer
returns c =
    let k = asked_known c.args.code c.in_ok-row.ensures.found in
    let passed1 = passes _ _ c.in_ok-check_length.ensures in
    ap answer_of c.check_length-2.ensures ∙ answer_checked _ _ ∙ rw (lt-ltb c.args.code codes k.0, rw k.1 at passed1, k.1)
