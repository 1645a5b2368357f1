-- What the tables of the codes satisfy, as the functions over them ask it. Assumes nothing.
use Rattle.std.specs.Prelude.{◌≡◌, ℕ, ◌+◌, ◌-◌, ◌*◌, ◌/◌, ◌%◌, ◌≤◌, ◌<◌}
use Rattle.codes.specs.Codes.{max_block, max_sent, max_sent_bytes, max_bits, max_bytes, max_checks, max_soft_working, max_signs}
use Rattle.codes.specs.declared.CodeParams.{CodeParams}
use Rattle.codes.specs.declared.parity_iter.Block.{Block}
use Rattle.codes.specs.declared.parity_iter.Block.TheVariants.{Ends, Empty, Identity, Permutation}

-- the size of a block: not too small, not too large, and a multiple of 4
pub record BlockSize (m : ℕ) : Type 0 where
  pub low : 16 ≤ m
  pub high : m ≤ max_block
  pub four : m % 4 ≡ 0

-- the value of an identity is below 64, that of a permutation is an index of theta and phi
abbrev pub Small : Block → Type 0
Small Ends = Unit
Small Empty = Unit
Small (Identity v) = v < 64
Small (Permutation v) = v < 26

-- what holds of every row, also of the zeros of a code that is not known: what it counts and its buffers fit the arrays that are made for
-- all codes
pub record Bounded (r : CodeParams) : Type 0 where
  pub sent : r.n ≤ max_sent
  pub sent_bytes : r.n / 8 ≤ max_sent_bytes
  pub bits : r.n + r.punctured_bits ≤ max_bits
  pub data_low : r.k ≤ r.n + r.punctured_bits
  pub checks : r.n + r.punctured_bits - r.k ≤ max_checks
  pub messages : 2 * r.paritycheck_sum + (r.n + r.punctured_bits) + (r.n + r.punctured_bits - r.k) ≤ max_soft_working
  pub output : r.output_len ≤ max_bytes
  pub flip_working : r.decode_bf_working_len ≤ max_bits
  pub soft_working : r.decode_ms_working_len ≤ max_soft_working
  pub signs : r.decode_ms_working_u8_len ≤ max_signs

-- what holds of every known row: its bytes are whole, the working buffers have a number for each bit, or two for each edge, one for each bit
-- and two for each check; blocks, data, parity, checks and bits are made of circulants, those of bytes, and parity, which is not empty, of words
pub record Roomy (r : CodeParams) : Type 0 where
  pub block : BlockSize r.submatrix_size
  -- a matrix has at most 4 by 11 blocks
  pub rows_fit : r.n + r.punctured_bits - r.k ≤ 4 * r.submatrix_size
  pub columns_fit : r.n + r.punctured_bits ≤ 11 * r.submatrix_size
  pub k_low : r.k ≤ r.n
  pub data_bytes : 8 * (r.k / 8) ≡ r.k
  pub sent : 8 * (r.n / 8) ≡ r.n
  pub whole : 8 * r.output_len ≡ r.n + r.punctured_bits
  pub signs : 8 * r.decode_ms_working_u8_len ≡ r.n + r.punctured_bits - r.k
  pub working : r.decode_bf_working_len ≡ r.n + r.punctured_bits
  pub soft_working : r.decode_ms_working_len ≡ 2 * r.paritycheck_sum + (r.n + r.punctured_bits) + 2 * (r.n + r.punctured_bits - r.k)
  pub circulant : 8 ≤ r.circulant_size
  pub circulant_bytes : r.circulant_size / 8 * 8 ≡ r.circulant_size
  pub block_circulants : r.submatrix_size / r.circulant_size * r.circulant_size ≡ r.submatrix_size
  pub data_circulants : r.k / r.circulant_size * r.circulant_size ≡ r.k
  pub parity_circulants : (r.n - r.k) / r.circulant_size * r.circulant_size ≡ r.n - r.k
  pub check_circulants : (r.n + r.punctured_bits - r.k) / r.circulant_size * r.circulant_size ≡ r.n + r.punctured_bits - r.k
  pub bit_circulants : (r.n + r.punctured_bits) / r.circulant_size * r.circulant_size ≡ r.n + r.punctured_bits
  pub parity_low : 8 ≤ r.n - r.k
  pub parity_words : (r.n - r.k) / 64 * 64 ≡ r.n - r.k
