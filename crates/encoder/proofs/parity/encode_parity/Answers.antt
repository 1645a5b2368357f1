use Rattle.std.proofs.Common.{arith, rules}
use Rattle.encoder.proofs.Fitting.{laid}
use Rattle.encoder.proofs.Putting.{words_long}
use Rattle.encoder.proofs.Known.{parity_parts}
use Rattle.encoder.proofs.parity.encode_parity.Goals as goal

pub fill_parity-requires : goal.fill_parity-requires
fill_parity-requires g c =
    let z = c.requires.parts in
    laid z c.split_at_mut-data.ensures.front_len (omega (arith, z.whole, c.split_at_mut-data.ensures.back_len)) (words_long c.args.g.now c.put_words.ensures) (search rules)

pub returns : goal.returns
returns g c =
    let z = c.requires.parts in
    parity_parts _ z c.split_at_mut-data.ensures.front c.split_at_mut-data.ensures.front_len (omega (arith, z.whole, c.split_at_mut-data.ensures.back_len)) c.put_words.ensures c.fill_parity.ensures
