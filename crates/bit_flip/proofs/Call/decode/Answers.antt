use Rattle.std.proofs.Common.{◌≡◌, length, replicate, ◌∙◌, rules}
use Rattle.bit_flip.proofs.Calls.{decoded_by}
use Rattle.bit_flip.proofs.Call.decode.Goals as goal

pub returns : goal.returns
returns c =
    let call = c.args.self.now in
    let cleared : c.fill.new.self ≡ replicate (length c.decode_word-ended.new.bits) 0 = search rules in
    decoded_by call.code call.limit call.input.now c.args.output.now c.decode_word-ended.new.bits _ _ _ call.accepted.known c.decode_word-ended.ensures
    c.pack.ensures cleared (c.decode_word-ended.auto.bits ∙ c.requires.1) c.requires.0
