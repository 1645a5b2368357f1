-- Clear bits, by the edges of any list. Assumes nothing.
use Rattle.std.specs.Prelude.{Bool, List, ◌≢◌, ℕ, ◌%◌, ◌<◌, T, eqb}
use Rattle.maths.specs.Tests.{both}
use Rattle.maths.specs.Tally.{tally}
use Rattle.codes.specs.Edges.{Edge}
use Rattle.matrices.specs.Counts.{count}

-- "the checks to which a bit has an odd number of edges": whether a is one of those of x
abbrev pub odd_to : List Edge → ℕ → ℕ → Bool
odd_to es x a = eqb (count es a x % 2) 1

-- how many edges v has to these checks
unfoldable pub touching : List Edge → ℕ → ℕ → ℕ
touching es x v = tally (λ e. both (odd_to es x e.check) (eqb e.bit v)) es

-- "Call the bit clear if there is such a check and every other bit has fewer edges to these checks than it has itself.": the bit x, of n bits
pub record Clear (es : List Edge) (n x : ℕ) : Type 0 where
  pub check : ℕ
  pub odd : T (odd_to es x check)
  pub most : (v : ℕ) → v < n → v ≢ x → touching es x v < touching es x x
