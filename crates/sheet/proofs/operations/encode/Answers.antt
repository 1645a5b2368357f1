use Rattle.std.proofs.Common.{ℕ, length-take, arith}
use Rattle.sheet.proofs.Texts.{encode_ended}
use Rattle.sheet.proofs.operations.encode.Goals as goal

pub returns : goal.returns
returns c =
    let b = c.row_of.ensures.bounded in
    encode_ended _ _ _ c.row_of.ensures.row b _ _ _ _ c.in_ok-copy_encode.was c.copy_encode.ensures c.from.ensures
    (omega (arith, c.copy_encode.auto.codeword, b.sent_bytes, length-take {A = ℕ})) c.print.ensures
