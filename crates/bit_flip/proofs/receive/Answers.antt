use Rattle.bit_flip.proofs.Calls.{decodes}
use Rattle.bit_flip.proofs.receive.Goals as goal

pub returns : goal.returns
returns c = search decodes
