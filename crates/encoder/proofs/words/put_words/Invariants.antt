-- the first i words are put
use Prim.Native.Nat.{◌*◌}
use Rattle.encoder.specs.Rows.{words_bit}
use Rattle.encoder.proofs.Grown.{Grown}
use Rattle.encoder.proofs.words.put_words.Given as goal

abbrev pub invariant-loop-i : goal.invariant-loop-i
invariant-loop-i l = Grown l.initial.rows (words_bit l.g) (l.i * 8) l.rows
