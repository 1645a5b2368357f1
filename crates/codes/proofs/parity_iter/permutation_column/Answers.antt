use Prim.Native.Nat.{◌+◌, ◌/◌}
use native.Mathlib.Omega.{arith}
use Rattle.codes.proofs.Columns.{quarter_below, permutation_inside}
use Rattle.codes.proofs.parity_iter.permutation_column.Goals as goal

pub overflow_add-result : goal.overflow_add-result
overflow_add-result c = omega (arith, quarter_below _ _ c.requires.1.0 c.requires.1.1.1, c.from.ensures)

pub overflow_mul-result : goal.overflow_mul-result
overflow_mul-result c = omega (arith, permutation_inside _ _ c.requires.1.0 c.requires.1.1.1 (c.from.result + c.args.i / (c.args.m / 4)) 0)

pub offset_bounds-phi-j : goal.offset_bounds-phi-j
offset_bounds-phi-j c = omega (arith, quarter_below _ _ c.requires.1.0 c.requires.1.1.1)

pub bounds-phi-j : goal.bounds-phi-j
bounds-phi-j c = quarter_below _ _ c.requires.1.0 c.requires.1.1.1

pub overflow_add-result-2 : goal.overflow_add-result-2
overflow_add-result-2 c = omega (arith, c.from-2.ensures)

pub nonzero_rem-result-2 : goal.nonzero_rem-result-2
nonzero_rem-result-2 c = omega arith

pub overflow_add-result-3 : goal.overflow_add-result-3
overflow_add-result-3 c = omega (arith, permutation_inside _ _ c.requires.1.0 c.requires.1.1.1 (c.from.result + c.args.i / (c.args.m / 4)) (c.from-2.result + c.args.i))

pub returns : goal.returns
returns c = rw (c.from.ensures, c.from-2.ensures)
