use Rattle.std.proofs.Common.{◌∙◌}
use Rattle.bit_flip.proofs.Calls.{word_decoded, decoding}
use Rattle.bit_flip.proofs.Call.decode_code.Goals as goal

pub invariant_of-few : goal.invariant_of-few
invariant_of-few c = search decoding

pub decode_bits-requires : goal.decode_bits-requires
decode_bits-requires c = search decoding

pub returns : goal.returns
returns c =
    let call = c.args.self.now in
    word_decoded call.code call.row _ call.accepted _ c.requires.0 _ (c.as_slice.ensures ∙ c.runs_of-runs.ensures) _ c.requires.1 _ _ _ _ c.decode_bits.ensures
