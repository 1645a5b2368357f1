use Rattle.bit_flip.proofs.Calls.{decoding}
use Rattle.bit_flip.proofs.Call.decode_word.Goals as goal

pub overflow_add-m : goal.overflow_add-m
overflow_add-m c = search decoding

pub overflow_sub-m : goal.overflow_sub-m
overflow_sub-m c = search decoding

pub slice_bounds-decode_code-end-2 : goal.slice_bounds-decode_code-end-2
slice_bounds-decode_code-end-2 c = search decoding

pub slice_bounds-decode_code-end-3 : goal.slice_bounds-decode_code-end-3
slice_bounds-decode_code-end-3 c = search decoding

pub decode_code-requires-2 : goal.decode_code-requires-2
decode_code-requires-2 c = search decoding
