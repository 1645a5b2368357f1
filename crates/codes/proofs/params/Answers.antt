use Rattle.std.proofs.lemmas.Result.{err_from_is_err_and}
use Rattle.codes.proofs.Codes.{code_unknown}
use Rattle.codes.proofs.Rows.{row_unknown}
use Rattle.codes.proofs.params.Goals as goal

pub returns-in_err-try_from-clause-told : goal.returns-in_err-try_from-clause-told
returns-in_err-try_from-clause-told c =
    let p = err_from_is_err_and c.from_residual.result c.from_residual.ensures.1 in
    let k = code_unknown _ c.in_err-try_from.ensures in
    rw (p.1, p.2, k.1, row_unknown _ k.0, k.0)
