use Rattle.std.proofs.Common.{refl}
use Rattle.std.proofs.lemmas.Result.{err_from_is_err_and}
use Rattle.min_sum.specs.Confidence.{i8}
use Rattle.min_sum.proofs.Answers.{number_some, to_hard_refused, to_hard_done}
use Rattle.confidence_i8.proofs.llrs.llrs_to_hard_i8.Goals as goal

pub returns-in_err-to_hard_refusal : goal.returns-in_err-to_hard_refusal
returns-in_err-to_hard_refusal c =
    let p = err_from_is_err_and c.from_residual.result c.from_residual.ensures.1 in
    rw (p.1, p.2) (to_hard_refused i8 c.args.code c.args.llrs.now c.args.output.now _ c.in_err-to_hard_refusal.ensures (number_some _))

pub returns : goal.returns
returns c = to_hard_done i8 c.args.code c.args.llrs.now c.args.output.now 0 c.in_ok-to_hard_refusal.ensures _ c.pack.ensures refl
