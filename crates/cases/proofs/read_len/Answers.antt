use Rattle.cases.proofs.Lengths.{reads_text}
use Rattle.cases.proofs.read_len.Goals as goal

pub returns-in-Err : goal.returns-in-Err
returns-in-Err c = reads_text c.args.c c.args.row (rw c.in-Err.is at c.try_from.ensures).0
