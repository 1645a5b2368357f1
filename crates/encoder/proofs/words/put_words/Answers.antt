use Rattle.std.proofs.Common.{◌∙◌, arith}
use Rattle.encoder.specs.Rows.{words_bit}
use Rattle.encoder.proofs.Grown.{grown_none}
use Rattle.encoder.proofs.Putting.{words_more}
use Rattle.encoder.proofs.words.put_words.Goals as goal

pub loop-i-init : goal.loop-i-init
loop-i-init c = grown_none c.args.rows.now (words_bit c.args.g.now)

pub loop-i-preserved : goal.loop-i-preserved
loop-i-preserved c =
    words_more c.args.rows.now c.args.g.now c.loop-i.i _ c.loop-i.invariant (omega arith) (omega arith) (c.copy_from_slice.ensures.after ∙ c.to_be_bytes.ensures)
