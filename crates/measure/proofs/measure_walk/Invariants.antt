-- The edges left, folded over the sum so far, give the whole sum. Assumes nothing.
use Rattle.std.proofs.Common.{◌≡◌}
use Rattle.maths.specs.Lists.{fold}
use Rattle.codes.specs.Walk.{remaining}
use Rattle.measure.specs.Sum.{added, sum_of}
use Rattle.measure.proofs.measure_walk.Given as goal

abbrev pub invariant-loop-check : goal.invariant-loop-check
invariant-loop-check l = fold added (remaining l.check-iterator) l.sum ≡ sum_of l.code
