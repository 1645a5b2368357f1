use Rattle.std.proofs.Common.{ℕ, ap, ◌∙◌, length-take, ne_eqb, arith}
use Rattle.std.proofs.lemmas.Result.{err_from_is_err_and}
use Rattle.std.specs.Prelude.{Err}
use Rattle.maths.proofs.Slices.{lent_full}
use Rattle.sheet.proofs.Rooms.{served_sent, served_working, served_signs}
use Rattle.sheet.proofs.Texts.{refused_told, ended_told, soft_refused, soft_told}
use Rattle.sheet.proofs.operations.soft.Goals as goal

pub slice_bounds-llrs-end : goal.slice_bounds-llrs-end
slice_bounds-llrs-end c = served_sent c.args.code _ c.row_of-row.ensures.row (ne_eqb _ _ c.if-code-eq-TOO_LARGE.false)

pub slice_bounds-llrs-end-2 : goal.slice_bounds-llrs-end-2
slice_bounds-llrs-end-2 c = lent_full _ _ _ (served_sent c.args.code _ c.row_of-row.ensures.row (ne_eqb _ _ c.if-code-eq-TOO_LARGE.false))

pub slice_bounds-working-end : goal.slice_bounds-working-end
slice_bounds-working-end c = served_working c.args.code _ c.row_of-row.ensures.row (ne_eqb _ _ c.if-code-eq-TOO_LARGE.false)

pub slice_bounds-working-end-2 : goal.slice_bounds-working-end-2
slice_bounds-working-end-2 c = lent_full _ _ _ (served_working c.args.code _ c.row_of-row.ensures.row (ne_eqb _ _ c.if-code-eq-TOO_LARGE.false))

pub slice_bounds-signs-end : goal.slice_bounds-signs-end
slice_bounds-signs-end c = served_signs c.args.code _ c.row_of-row.ensures.row (ne_eqb _ _ c.if-code-eq-TOO_LARGE.false)

pub slice_bounds-signs-end-2 : goal.slice_bounds-signs-end-2
slice_bounds-signs-end-2 c = lent_full _ _ _ (served_signs c.args.code _ c.row_of-row.ensures.row (ne_eqb _ _ c.if-code-eq-TOO_LARGE.false))

pub returns-in_err-hard_to_llrs_i8 : goal.returns-in_err-hard_to_llrs_i8
returns-in_err-hard_to_llrs_i8 c =
    let p = err_from_is_err_and c.from_residual.result c.from_residual.ensures.1 in
    soft_refused _ c.args.limit _ _ c.row_of-row.ensures.row c.row_of-row.ensures.bounded (ne_eqb _ _ c.if-code-eq-TOO_LARGE.false) _ _ _ c.from_residual.result
    c.in_err-hard_to_llrs_i8.was c.hard_to_llrs_i8.ensures (p.1 ∙ ap Err p.2)

pub returns-in_err-ended : goal.returns-in_err-ended
returns-in_err-ended c =
    let p = err_from_is_err_and c.from_residual-in_err-ended.result c.from_residual-in_err-ended.ensures.1 in
    soft_told _ c.args.limit _ _ c.row_of-row.ensures.row c.row_of-row.ensures.bounded (ne_eqb _ _ c.if-code-eq-TOO_LARGE.false) _ _ _ _ _ _ _
    c.in_ok-hard_to_llrs_i8.was c.hard_to_llrs_i8.ensures c.decode_ms_i8.ensures
    (refused_told c.decode_ms_i8.result _ c.from_residual-in_err-ended.result _ c.in_err-ended.was (p.1 ∙ ap Err p.2))

pub returns : goal.returns
returns c =
    let b = c.row_of-row.ensures.bounded in
    soft_told _ c.args.limit _ _ c.row_of-row.ensures.row b (ne_eqb _ _ c.if-code-eq-TOO_LARGE.false) _ _ _ _ _ _ _
    c.in_ok-hard_to_llrs_i8.was c.hard_to_llrs_i8.ensures c.decode_ms_i8.ensures
    (ended_told c.decode_ms_i8.result _ _ _ _ c.in_ok-ended.was c.from.ensures (omega (arith, c.decode_ms_i8.auto.output, b.output, length-take {A = ℕ})) c.print.ensures)
