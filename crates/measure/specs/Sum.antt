-- The sum of the numbers of all edges of a code, modulo 65536. Assumes nothing.
use Rattle.std.specs.Prelude.{ℕ, ◌+◌, ◌%◌}
use Rattle.maths.specs.Lists.{fold}
use Rattle.codes.specs.Edges.{Edge, edges}

abbrev pub added : Edge → ℕ → ℕ
added e sum = (sum % 65536 + e.check % 65536 + e.bit % 65536) % 65536

abbrev pub sum_of : ℕ → ℕ
sum_of code = fold added (edges code) 0
