use Rattle.bit_flip.specs.Outcome.{decode_word}
use Rattle.bit_flip.proofs.Calls.{decodes}
use Rattle.bit_flip.proofs.decode_bits.Goals as goal

pub decode_erasures-requires : goal.decode_erasures-requires
decode_erasures-requires c = search decodes

pub run_passes-requires : goal.run_passes-requires
run_passes-requires c = search decodes

pub returns : goal.returns
unfolding decode_word
returns c = search decodes
