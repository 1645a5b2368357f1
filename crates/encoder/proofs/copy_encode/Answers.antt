use Rattle.codes.proofs.Answers.{passed_length, passes}
use Rattle.encoder.proofs.Answered.{copy_done}
use Rattle.encoder.proofs.copy_encode.Goals as goal

pub returns : goal.returns
returns c =
    let read = passed_length _ _ (passes _ _ c.in_ok-check_length.ensures) in
    let written = passed_length _ _ (passes _ _ c.in_ok-check_length-2.ensures) in
    copy_done _ _ _ c.params-row.ensures read written _ c.in_ok-code.ensures _ c.copy_in.ensures c.encode_known.ensures
