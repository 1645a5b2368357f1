-- The columns of a parity check matrix that is given by its edges. Assumes nothing.
use Rattle.std.specs.Prelude.{List, ◌≡◌, ℕ, ◌%◌, length}
use Rattle.codes.specs.Edges.{Edge}
use Rattle.codes.specs.Equations.{checks_of}

-- a bit has an odd number of edges
abbrev pub Odd : List Edge → ℕ → Type 0
Odd es x = length (checks_of es x) % 2 ≡ 1
