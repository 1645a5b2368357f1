use Rattle.std.proofs.Common.{◌∙◌}
use Rattle.runs.proofs.Parity.{meeting, code_met}
use Rattle.runs.proofs.meets.word_meets.Goals as goal

pub overflow_add-n : goal.overflow_add-n
overflow_add-n c = search meeting

pub overflow_sub-m : goal.overflow_sub-m
overflow_sub-m c = search meeting

pub slice_bounds-bits-end : goal.slice_bounds-bits-end
slice_bounds-bits-end c = search meeting

pub slice_bounds-all_met-end : goal.slice_bounds-all_met-end
slice_bounds-all_met-end c = search meeting

pub slice_bounds-checks-end : goal.slice_bounds-checks-end
slice_bounds-checks-end c = search meeting

pub slice_bounds-all_met-end-2 : goal.slice_bounds-all_met-end-2
slice_bounds-all_met-end-2 c = search meeting

pub returns : goal.returns
returns c =
    code_met c.args.code c.args.row c.args.word.now c.as_slice.result.now _ c.requires (c.as_slice.ensures ∙ c.runs_of-runs.ensures) c.all_met.ensures
