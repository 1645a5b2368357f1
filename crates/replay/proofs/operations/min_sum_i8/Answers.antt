-- What is lent of the three buffers is so many zeros. Assumes nothing.
use Rattle.std.proofs.Common.{pos, ℕ}
use lib.IntN.{ℤ}
use Rattle.codes.specs.Codes.{max_sent, max_signs, max_soft_working}
use Rattle.replay.proofs.Lent.{least_lent, lent_is}
use Rattle.replay.proofs.operations.min_sum_i8.Goals as goal

pub slice_bounds-min_sum_on-end-2 : goal.slice_bounds-min_sum_on-end-2
slice_bounds-min_sum_on-end-2 c = least_lent {A = ℤ} max_soft_working (pos 0) _ c.min-w.ensures

pub returns : goal.returns
returns c =
    rw (
      lent_is {A = ℤ} max_sent (pos 0) _ c.min-n.ensures,
      lent_is {A = ℤ} max_soft_working (pos 0) _ c.min-w.ensures,
      lent_is {A = ℕ} max_signs 0 _ c.min-s.ensures,
    ) at c.min_sum_on.ensures.0.compared
