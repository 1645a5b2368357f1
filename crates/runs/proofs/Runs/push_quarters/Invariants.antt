use Rattle.std.proofs.Common.{◌≡◌, ◌++◌}
use Rattle.runs.specs.Runs.{quarters}
use Rattle.runs.proofs.Runs.push_quarters.Given as goal

-- the first j quarters are listed
abbrev pub invariant-loop-j : goal.invariant-loop-j
invariant-loop-j l =
    l.self ≡ l.fn.self ++ quarters l.block.size l.matrix.theta.now l.matrix.phi.now l.value l.block.check.0 l.block.bit.0 l.j
