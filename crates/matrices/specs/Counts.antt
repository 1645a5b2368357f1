-- How many edges join a check and a bit. Assumes nothing.
use Rattle.std.specs.Prelude.{Bool, List, ℕ, eqb}
use Rattle.maths.specs.Tests.{both}
use Rattle.maths.specs.Tally.{tally}
use Rattle.codes.specs.Edges.{Edge}

-- the edge joins check a and bit v
abbrev pub joins : ℕ → ℕ → Edge → Bool
joins a v e = both (eqb e.check a) (eqb e.bit v)

-- how many edges of a list join check a and bit v
unfoldable pub count : List Edge → ℕ → ℕ → ℕ
count es a v = tally (joins a v) es
