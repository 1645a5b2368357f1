use Rattle.std.proofs.Common.{arith}
use Rattle.std.proofs.lemmas.Grind.{common_steps}
use Rattle.sheet_text.specs.Reading.{parse}
use Rattle.sheet_text.proofs.Digits.{hex_unhex}
use Rattle.sheet_text.proofs.Parts.{frame_placed, frame_inside}
use Rattle.sheet_text.proofs.read.read.Goals as goal

pub returns-clause-parts : goal.returns-clause-parts
unfolding parse
returns-clause-parts c = grind (arith, common_steps, hex_unhex)

pub returns-clause-place : goal.returns-clause-place
returns-clause-place c = frame_placed _ _ (returns-clause-parts c)

pub returns-clause-inside : goal.returns-clause-inside
returns-clause-inside c = frame_inside _ _ (returns-clause-parts c)
