use Rattle.std.proofs.Common.{refl, sym}
use Rattle.std.proofs.lemmas.Result.{err_from_is_err_and}
use Rattle.min_sum.specs.Confidence.{i8}
use Rattle.min_sum.proofs.Answers.{number_some, decode_lent, decode_refused, decode_accepted}
use Rattle.min_sum_i8.proofs.decode_ms_i8.Goals as goal

pub returns-in_err-decode_refusal : goal.returns-in_err-decode_refusal
returns-in_err-decode_refusal c =
    let a = c.args in
    let p = err_from_is_err_and c.from_residual.result c.from_residual.ensures.1 in
    rw (p.1, p.2) (decode_refused i8 a.code a.llrs.now a.output.now a.working.now a.working_u8.now a.limit c.in_err-decode_refusal.ensures (number_some _))

pub decode-requires : goal.decode-requires
decode-requires c = decode_lent _ _ _ _ _ (sym c.in_ok-decode_refusal.ensures)

pub returns : goal.returns
returns c =
    let a = c.args in
    decode_accepted i8 a.code a.llrs.now a.output.now a.working.now a.working_u8.now a.limit c.in_ok-decode_refusal.ensures refl c.decode.ensures
