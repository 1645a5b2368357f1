use Rattle.std.proofs.Common.{lt-ltb}
use Rattle.std.proofs.lemmas.Result.{err_from_is_err_and}
use Rattle.codes.specs.Codes.{codes}
use Rattle.codes.proofs.Answers.{refuses, passes, passed_length}
use Rattle.codes.proofs.Codes.{asked_known, asked_unknown}
use Rattle.bit_flip.specs.Outcome.{outcome}
use Rattle.bit_flip.proofs.Calls.{working_bits}
use Rattle.bit_flip.proofs.decode_bf.Goals as goal

pub returns-in_err-row : goal.returns-in_err-row
unfolding outcome
returns-in_err-row c =
    let p = err_from_is_err_and c.from_residual.result c.from_residual.ensures.1 in
    let k = asked_unknown c.args.code c.in_err-row.ensures.found in
    rw (p.1, p.2, k.0, k.1)

pub returns-in_err-check_length : goal.returns-in_err-check_length
unfolding outcome
returns-in_err-check_length c =
    let p = err_from_is_err_and c.from_residual-in_err-check_length.result c.from_residual-in_err-check_length.ensures.1 in
    let k = asked_known c.args.code c.in_ok-row.ensures.found in
    let r = refuses _ _ c.in_err-check_length.ensures in
    rw (p.1, p.2, r.1, lt-ltb c.args.code codes k.0, rw k.1 at r.0)

pub returns-in_err-check_length-2 : goal.returns-in_err-check_length-2
unfolding outcome
returns-in_err-check_length-2 c =
    let p = err_from_is_err_and c.from_residual-in_err-check_length-2.result c.from_residual-in_err-check_length-2.ensures.1 in
    let k = asked_known c.args.code c.in_ok-row.ensures.found in
    let read = passes _ _ c.in_ok-check_length.ensures in
    let r = refuses _ _ c.in_err-check_length-2.ensures in
    rw (p.1, p.2, r.1, lt-ltb c.args.code codes k.0, rw k.1 at read, rw k.1 at r.0)

pub returns-in_err-check_length-3 : goal.returns-in_err-check_length-3
unfolding outcome
returns-in_err-check_length-3 c =
    let p = err_from_is_err_and c.from_residual-in_err-check_length-3.result c.from_residual-in_err-check_length-3.ensures.1 in
    let k = asked_known c.args.code c.in_ok-row.ensures.found in
    let read = passes _ _ c.in_ok-check_length.ensures in
    let written = passes _ _ c.in_ok-check_length-2.ensures in
    let r = refuses _ _ c.in_err-check_length-3.ensures in
    rw (p.1, p.2, r.1, lt-ltb c.args.code codes k.0, rw k.1 at read, rw k.1 at written, rw k.1 at r.0)

pub decode-requires : goal.decode-requires
decode-requires c =
    let k = asked_known c.args.code c.in_ok-row.ensures.found in
    let written = passes _ _ c.in_ok-check_length-2.ensures in
    let worked = passes _ _ c.in_ok-check_length-3.ensures in
    (passed_length _ _ (rw k.1 at written), working_bits c.args.code _ k.0 (passed_length _ _ (rw k.1 at worked)))

pub returns : goal.returns
unfolding outcome
returns c =
    let k = asked_known c.args.code c.in_ok-row.ensures.found in
    let read = passes _ _ c.in_ok-check_length.ensures in
    let written = passes _ _ c.in_ok-check_length-2.ensures in
    let worked = passes _ _ c.in_ok-check_length-3.ensures in
    rw (c.decode.ensures, lt-ltb c.args.code codes k.0, rw k.1 at read, rw k.1 at written, rw k.1 at worked)
