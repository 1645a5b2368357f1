use Rattle.std.proofs.Common.{length}
use Rattle.codes.specs.Equations.{check_of, bit_of, word_of}
use Rattle.runs.specs.Steps.{put}
use Rattle.runs.proofs.Loops.{Putting}
use Rattle.runs.proofs.steps.put_run.Given as goal

-- what is left of the run, folded over the present bytes, gives what the whole run gives
abbrev pub invariant-loop-i : goal.invariant-loop-i
invariant-loop-i g l =
    Putting (put check_of bit_of g.S.Step.op (word_of l.from)) (length l.fn.to) (length l.from) l.fn.near l.fn.far l.fn.size l.i l.fn.to l.to
