use Rattle.std.proofs.Common.{lt-ltb, ◌∙◌, ap}
use Rattle.std.proofs.lemmas.Result.{err_from_is_err_and}
use Rattle.codes.specs.Answers.{answer_of}
use Rattle.codes.specs.Codes.{codes}
use Rattle.codes.proofs.Answers.{refuses, passes}
use Rattle.codes.proofs.Codes.{asked_known, asked_unknown}
use Rattle.min_sum.specs.Outcomes.{decode_answer}
use Rattle.min_sum.proofs.Answers.{answer_checked}
use Rattle.min_sum.proofs.refusals.decode_refusal.Goals as goal

pub returns-in_err-row : goal.returns-in_err-row
unfolding decode_answer
returns-in_err-row c =
    let p = err_from_is_err_and c.from_residual.result c.from_residual.ensures.1 in
    let k = asked_unknown c.args.code c.in_err-row.ensures.found in
    rw (p.1, p.2, k.0, k.1)

pub returns-in_err-check_length : goal.returns-in_err-check_length
unfolding decode_answer
returns-in_err-check_length c =
    let p = err_from_is_err_and c.from_residual-in_err-check_length.result c.from_residual-in_err-check_length.ensures.1 in
    let k = asked_known c.args.code c.in_ok-row.ensures.found in
    let r = refuses _ _ c.in_err-check_length.ensures in
    rw (p.1, p.2, r.1, lt-ltb c.args.code codes k.0, rw k.1 at r.0)

pub returns-in_err-check_length-2 : goal.returns-in_err-check_length-2
unfolding decode_answer
returns-in_err-check_length-2 c =
    let p = err_from_is_err_and c.from_residual-in_err-check_length-2.result c.from_residual-in_err-check_length-2.ensures.1 in
    let k = asked_known c.args.code c.in_ok-row.ensures.found in
    let passed1 = passes _ _ c.in_ok-check_length.ensures in
    let r = refuses _ _ c.in_err-check_length-2.ensures in
    rw (p.1, p.2, r.1, lt-ltb c.args.code codes k.0, rw k.1 at passed1, rw k.1 at r.0)

pub returns-in_err-check_length-3 : goal.returns-in_err-check_length-3
unfolding decode_answer
returns-in_err-check_length-3 c =
    let p = err_from_is_err_and c.from_residual-in_err-check_length-3.result c.from_residual-in_err-check_length-3.ensures.1 in
    let k = asked_known c.args.code c.in_ok-row.ensures.found in
    let passed1 = passes _ _ c.in_ok-check_length.ensures in
    let passed2 = passes _ _ c.in_ok-check_length-2.ensures in
    let r = refuses _ _ c.in_err-check_length-3.ensures in
    rw (p.1, p.2, r.1, lt-ltb c.args.code codes k.0, rw k.1 at passed1, rw k.1 at passed2, rw k.1 at r.0)

pub returns : goal.returns
unfolding decode_answer
returns c =
    let k = asked_known c.args.code c.in_ok-row.ensures.found in
    let passed1 = passes _ _ c.in_ok-check_length.ensures in
    let passed2 = passes _ _ c.in_ok-check_length-2.ensures in
    let passed3 = passes _ _ c.in_ok-check_length-3.ensures in
    ap answer_of c.check_length-4.ensures ∙ answer_checked _ _ ∙ rw (lt-ltb c.args.code codes k.0, rw k.1 at passed1, rw k.1 at passed2, rw k.1 at passed3, k.1)
