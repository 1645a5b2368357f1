use Rattle.std.proofs.lemmas.Result.{err_from_is_err_and}
use Rattle.codes.proofs.Codes.{code_known, code_unknown}
use Rattle.codes.proofs.Rows.{walk_unknown}
use Rattle.codes.proofs.parity_iter.iter_paritychecks.Goals as goal

pub returns-clause-found : goal.returns-clause-found
returns-clause-found c = rw (code_known _ c.in_ok-try_from.ensures, c.new.ensures)

pub returns-clause-told : goal.returns-clause-told
returns-clause-told c = rw (code_known _ c.in_ok-try_from.ensures, c.new.ensures)

pub returns-in_err-try_from-clause-found : goal.returns-in_err-try_from-clause-found
returns-in_err-try_from-clause-found c =
    let p = err_from_is_err_and c.from_residual.result c.from_residual.ensures.1 in
    let k = code_unknown _ c.in_err-try_from.ensures in
    rw (p.1, p.2, k.0, k.1)

pub returns-in_err-try_from-clause-told : goal.returns-in_err-try_from-clause-told
returns-in_err-try_from-clause-told c =
    let p = err_from_is_err_and c.from_residual.result c.from_residual.ensures.1 in
    let k = code_unknown _ c.in_err-try_from.ensures in
    rw (p.1, p.2, k.1, walk_unknown _ k.0, k.0)
