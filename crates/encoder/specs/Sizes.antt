-- How the parts of a frame and of a generator lie, as the functions over them ask it. Assumes nothing.
use Rattle.std.specs.Prelude.{List, ◌≡◌, ℕ, ◌+◌, ◌*◌, ◌/◌, ◌^◌, ◌≤◌, ◌<◌, length}

-- data and parity bytes in blocks of b bits, not none and whole bytes each, and a row of as many bytes as the parity for each block of data
pub record Laid (message parity rows b : ℕ) : Type 0 where
  pub some : 8 ≤ b
  pub bytes : b ≡ b / 8 * 8
  pub data_blocks : message * 8 ≡ message * 8 / b * b
  pub parity_blocks : parity ≡ parity / (b / 8) * (b / 8)
  pub rows_all : rows ≡ message * 8 / b * parity
  pub fits : message * 8 < 2 ^ 64

-- k data bits and r parity bits, not none, in blocks of b bits, whole bytes each, and a row of r / 64 words for each block of data
pub record Parts (s g : List ℕ) (k r b : ℕ) : Type 0 where
  pub some : 8 ≤ r
  pub bytes : b ≡ b / 8 * 8
  pub rows : k ≡ k / b * b
  pub blocks : r ≡ r / b * b
  pub words : r ≡ r / 64 * 64
  pub whole : length s ≡ k / 8 + r / 8
  pub generator : length g ≡ k / b * (r / 64)
