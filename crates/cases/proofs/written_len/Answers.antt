use Rattle.cases.proofs.Lengths.{writes_answer}
use Rattle.cases.proofs.written_len.Goals as goal

pub returns-in-Err : goal.returns-in-Err
returns-in-Err c = writes_answer c.args.c c.args.row (rw c.in-Err.is at c.try_from.ensures).0
