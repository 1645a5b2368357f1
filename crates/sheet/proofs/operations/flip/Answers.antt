use Rattle.std.proofs.Common.{ℕ, ap, ◌∙◌, length-take, arith}
use Rattle.std.proofs.lemmas.Result.{err_from_is_err_and}
use Rattle.std.specs.Prelude.{Err}
use Rattle.sheet.proofs.Texts.{flip_told, refused_told, ended_told}
use Rattle.sheet.proofs.operations.flip.Goals as goal

pub returns-in_err-ended : goal.returns-in_err-ended
returns-in_err-ended c =
    let p = err_from_is_err_and c.from_residual.result c.from_residual.ensures.1 in
    flip_told _ _ _ _ c.row_of-row.ensures.row c.row_of-row.ensures.bounded _ _ _ _ c.decode_bf.ensures
    (refused_told c.decode_bf.result _ c.from_residual.result _ c.in_err-ended.was (p.1 ∙ ap Err p.2))

pub returns : goal.returns
returns c =
    let b = c.row_of-row.ensures.bounded in
    flip_told _ _ _ _ c.row_of-row.ensures.row b _ _ _ _ c.decode_bf.ensures
    (ended_told c.decode_bf.result _ _ _ _ c.in_ok-ended.was c.from.ensures (omega (arith, c.decode_bf.auto.output, b.output, length-take {A = ℕ})) c.print.ensures)
