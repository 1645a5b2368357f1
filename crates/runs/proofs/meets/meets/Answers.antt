use Rattle.std.proofs.Common.{lt-ltb}
use Rattle.std.proofs.lemmas.Result.{err_from_is_err_and}
use Rattle.codes.specs.Codes.{codes}
use Rattle.codes.proofs.Answers.{refuses, passes}
use Rattle.codes.proofs.Codes.{asked_known, asked_unknown}
use Rattle.runs.specs.Meets.{met_of}
use Rattle.runs.proofs.meets.meets.Goals as goal

pub returns-in_err-row : goal.returns-in_err-row
unfolding met_of
returns-in_err-row c =
    let p = err_from_is_err_and c.from_residual.result c.from_residual.ensures.1 in
    let k = asked_unknown c.args.code c.in_err-row.ensures.found in
    rw (p.1, p.2, k.0, k.1)

pub returns-in_err-check_length : goal.returns-in_err-check_length
unfolding met_of
returns-in_err-check_length c =
    let p = err_from_is_err_and c.from_residual-in_err-check_length.result c.from_residual-in_err-check_length.ensures.1 in
    let k = asked_known c.args.code c.in_ok-row.ensures.found in
    let r = refuses _ _ c.in_err-check_length.ensures in
    rw (p.1, p.2, r.1, lt-ltb c.args.code codes k.0, rw k.1 at r.0)

pub returns : goal.returns
unfolding met_of
returns c =
    let k = asked_known c.args.code c.in_ok-row.ensures.found in
    let r = passes _ _ c.in_ok-check_length.ensures in
    rw (lt-ltb c.args.code codes k.0, rw k.1 at r, c.word_meets.ensures)
