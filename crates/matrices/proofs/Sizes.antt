-- How the sizes of a code's blocks, circulants and bytes go together. Assumes nothing.
use mathlib.Core.Path.{◌≡◌, sym}
use Prim.Native.Nat.{ℕ, ◌-◌, ◌*◌, ◌/◌, ◌%◌, ◌≤◌, ◌<◌}
use native.Mathlib.Omega.{arith}
use Rattle.codes.specs.Codes.{Known, TC, matrix_of, row_of, bits_in, checks_in, circulant_of}
use Rattle.codes.proofs.Codes.{roomy, tc_sent}

abbrev pub size_of : ℕ → ℕ
size_of code = (matrix_of code).size

-- the blocks of b that the data, the checks, the bits and the parity of a code make
abbrev pub data_blocks : ℕ → ℕ
data_blocks code = (row_of code).k / circulant_of code

abbrev pub check_blocks : ℕ → ℕ
check_blocks code = checks_in code / circulant_of code

abbrev pub bit_blocks : ℕ → ℕ
bit_blocks code = bits_in code / circulant_of code

abbrev pub parity_blocks : ℕ → ℕ
parity_blocks code = ((row_of code).n - (row_of code).k) / circulant_of code

-- how many bytes of parity a code has
abbrev pub parity_bytes : ℕ → ℕ
parity_bytes code = ((row_of code).n - (row_of code).k) / 8

pub record Sizes (code : ℕ) : Type 0 where
  -- a block is some circulants wide and high, and a multiple of 4
  pub some : 0 < circulant_of code
  pub whole : size_of code ≡ size_of code / circulant_of code * circulant_of code
  pub large : 0 < size_of code
  pub four : size_of code % 4 ≡ 0
  -- a matrix has at most 4 by 11 blocks
  pub rows_fit : checks_in code ≤ 4 * size_of code
  pub columns_fit : bits_in code ≤ 11 * size_of code
  -- data, checks, bits and parity are made of circulants
  pub data_blocks_lem : data_blocks code * circulant_of code ≡ (row_of code).k
  pub check_blocks_lem : check_blocks code * circulant_of code ≡ checks_in code
  pub bit_blocks_lem : bit_blocks code * circulant_of code ≡ bits_in code
  pub parity_blocks_lem : parity_blocks code * circulant_of code ≡ (row_of code).n - (row_of code).k
  -- data and parity are whole bytes
  pub data_bytes : (row_of code).k / 8 * 8 ≡ (row_of code).k
  pub parity_bytes_lem : parity_bytes code * 8 ≡ (row_of code).n - (row_of code).k
  pub data_fits : (row_of code).k ≤ (row_of code).n

pub sizes : (code : ℕ) → Known code → Sizes code
sizes code h =
    let room = roomy code h in
    record {
      some = omega (arith, room.circulant);
      whole = sym room.block_circulants;
      large = omega (arith, room.block.low);
      four = room.block.four;
      rows_fit = room.rows_fit;
      columns_fit = room.columns_fit;
      data_blocks_lem = room.data_circulants;
      check_blocks_lem = room.check_circulants;
      bit_blocks_lem = room.bit_circulants;
      parity_blocks_lem = room.parity_circulants;
      data_bytes = omega (arith, room.data_bytes);
      parity_bytes_lem = omega (arith, room.data_bytes, room.sent, room.k_low);
      data_fits = room.k_low;
    }

-- every bit of a TC code is sent, in whole bytes
pub tc_bits : (code : ℕ) → TC code → 8 * ((row_of code).n / 8) ≡ bits_in code
tc_bits code tc = omega (arith, (roomy code (omega arith)).sent, tc_sent code tc)
