use Rattle.std.proofs.Common.{refl, pos, negsuc}
use Rattle.std.proofs.lemmas.Result.{err_from_is_err_and}
use Rattle.min_sum.proofs.Answers.{number_some, to_llrs_refused, to_llrs_done, to_llrs_sized}
use Rattle.confidence_i8.proofs.llrs.hard_to_llrs_i8.Goals as goal

pub returns-in_err-to_llrs_refusal : goal.returns-in_err-to_llrs_refusal
returns-in_err-to_llrs_refusal c =
    let p = err_from_is_err_and c.from_residual.result c.from_residual.ensures.1 in
    rw (p.1, p.2) (to_llrs_refused (negsuc 0) (pos 1) c.args.code c.args.input.now c.args.llrs.now _ c.in_err-to_llrs_refusal.ensures (number_some _))

pub unpack-requires : goal.unpack-requires
unpack-requires c = to_llrs_sized _ _ _ 0 c.in_ok-to_llrs_refusal.ensures refl

pub returns : goal.returns
returns c = to_llrs_done (negsuc 0) (pos 1) c.args.code c.args.input.now c.args.llrs.now 0 c.in_ok-to_llrs_refusal.ensures _ c.unpack.ensures refl
