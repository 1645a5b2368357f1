use Rattle.min_sum.proofs.Ran.{decodes}
use Rattle.min_sum_i8.proofs.decode.Goals as goal

pub slice_bounds-marks-end : goal.slice_bounds-marks-end
slice_bounds-marks-end c = search decodes

pub slice_bounds-decode_code-end-2 : goal.slice_bounds-decode_code-end-2
slice_bounds-decode_code-end-2 c = search decodes

pub decode_code-requires-clause-none : goal.decode_code-requires-clause-none
decode_code-requires-clause-none c = search decodes

pub decode_code-requires-2-clause-none : goal.decode_code-requires-2-clause-none
decode_code-requires-2-clause-none c = search decodes
