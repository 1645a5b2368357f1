use Rattle.std.proofs.Common.{length}
use Rattle.codes.specs.Equations.{check_of, bit_of, word_of}
use Rattle.runs.specs.Steps.{put}
use Rattle.runs.proofs.Loops.{Sweeping}
use Rattle.runs.proofs.steps.put_at_bits.Given as goal

-- the runs left, folded over the present bytes, give what all runs give
abbrev pub invariant-loop-run : goal.invariant-loop-run
invariant-loop-run g l =
    Sweeping (put bit_of check_of g.S.Step.op (word_of l.checks)) (length l.checks) (length l.fn.bits) l.runs l.run-index l.fn.bits l.bits
