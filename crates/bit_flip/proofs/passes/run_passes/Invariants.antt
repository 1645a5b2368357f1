use Rattle.std.proofs.Common.{length}
use Rattle.bit_flip.proofs.Passing.{Passing}
use Rattle.bit_flip.proofs.passes.run_passes.Given as goal

-- the passes left give from the present word what all give from the first
abbrev pub invariant-loop-pass : goal.invariant-loop-pass
invariant-loop-pass l = Passing l.runs (length l.fn.checks) (length l.fn.bits) l.limit l.pass (length l.checks) (length l.bits) l.fn.bits l.bits
