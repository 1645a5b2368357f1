-- In how many flips two wrong bits go away. Assumes nothing.
use Rattle.std.specs.Prelude.{List, ◌≢◌, ◌≡◌, ℕ, ◌≤◌, length}
use Rattle.codes.specs.Edges.{Edge}
use Rattle.codes.specs.Equations.{checks_of}
use Rattle.two_flips.specs.Clear.{touching}

-- how many edges a bit has
abbrev pub degree : List Edge → ℕ → ℕ
degree es v = length (checks_of es v)

-- what is said of k, the flips in which the wrong bits x and y go away
pub record PairFlips (es : List Edge) (x y k : ℕ) : Type 0 where
  pub some : 1 ≤ k
  pub most : k ≤ 3
  -- one has more edges than the other: it goes first, and the other next
  pub unlike : degree es x ≢ degree es y → k ≡ 2
  -- both have as many and share no check, or have five: they go at once
  pub apart : degree es x ≡ degree es y → touching es x y ≡ 0 → k ≡ 1
  pub five : degree es x ≡ 5 → degree es y ≡ 5 → k ≡ 1
