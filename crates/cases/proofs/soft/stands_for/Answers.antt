use Rattle.std.proofs.Common.{◌∙◌}
use mir.Facts.{sfits_to_z}
use Rattle.cases.proofs.Confidence.{signed_is, bits_tell}
use Rattle.cases.proofs.soft.stands_for.Goals as goal

pub returns : goal.returns
returns c =
    rw (← (c.cast_signed.ensures ∙ signed_is c.args.byte c.ranges.byte.fits))
    (bits_tell _ _ (rw c.cast_signed.ensures (sfits_to_z c.ranges.byte)) c.ranges.confidence)
