-- The generator matrix as the standard describes it: G = [I | W], W made of b by b circulants. Assumes nothing.
use Rattle.std.specs.Prelude.{ℕ, zero, suc, ◌+◌, ◌-◌, ◌*◌, ◌/◌, ◌%◌, ltb}
use Rattle.maths.specs.Tests.{pick}
use Rattle.maths.specs.Ones.{delta}
use Rattle.codes.specs.Codes.{row_of, circulant_of}
use Rattle.codes.specs.Frames.{generator}

-- a row with each block of b bits turned right by one
abbrev pub turn_row : ℕ → (ℕ → ℕ) → ℕ → ℕ
turn_row b r j = r (j / b * b + (j % b + (b - 1)) % b)

-- row o of a row of circulants whose first row is r: each is the one above turned right
unfoldable pub row_below : ℕ → (ℕ → ℕ) → ℕ → ℕ → ℕ
row_below b r zero = r
row_below b r (suc o) = turn_row b (row_below b r o)

-- the entry of W in row i and column j, where the rows G are the first ones of the circulants
abbrev pub w_entry : ℕ → (ℕ → ℕ → ℕ) → ℕ → ℕ → ℕ
w_entry b G i j = row_below b (G (i / b)) (i % b) j

-- the entry of [I | W] in row i and column v
abbrev pub systematic : ℕ → ℕ → (ℕ → ℕ → ℕ) → ℕ → ℕ → ℕ
systematic b k G i v = pick (ltb v k) (delta i v) (w_entry b G i (v - k))

-- the entry of a code's G
abbrev pub g_entry : ℕ → ℕ → ℕ → ℕ
g_entry code = systematic (circulant_of code) (row_of code).k (generator code)
