-- The sizes of a code in circulants: sent bits, punctured bits, and the third row of blocks. Assumes nothing.
use mathlib.Core.Path.{◌≡◌}
use Prim.Native.Nat.{ℕ, ◌+◌, ◌*◌, ◌/◌, ◌≤◌}
use lib.Dec.{leb, leb→le}
use Rattle.maths.proofs.Tests.{below_at, below_eq}
use Rattle.codes.specs.Codes.{codes, Known, rows, row_of, checks_in, circulant_of}
use Rattle.matrices.proofs.Sizes.{bit_blocks}
use Rattle.telemetry.specs.Completion.{third_row}

abbrev pub sent_blocks : ℕ → ℕ
sent_blocks code = (row_of code).n / circulant_of code

abbrev pub punctured_blocks : ℕ → ℕ
punctured_blocks code = (row_of code).punctured_bits / circulant_of code

-- the first row of circulants of the third row of blocks
abbrev pub third_block : ℕ → ℕ
third_block code = third_row code / circulant_of code

pub record Cut (code : ℕ) : Type 0 where
  pub sent : sent_blocks code * circulant_of code ≡ (row_of code).n
  pub bits : bit_blocks code ≡ sent_blocks code + punctured_blocks code
  pub third : third_block code * circulant_of code ≡ third_row code
  -- there is a check in the third row of blocks for each punctured bit
  pub room : third_row code + (row_of code).punctured_bits ≤ checks_in code

pub cut : (code : ℕ) → Known code → Cut code
unfolding rows
cut code h =
    record {
      sent = below_eq codes (λ c. sent_blocks c * circulant_of c) (λ c. (row_of c).n) tt code h;
      bits = below_eq codes bit_blocks (λ c. sent_blocks c + punctured_blocks c) tt code h;
      third = below_eq codes (λ c. third_block c * circulant_of c) third_row tt code h;
      room = leb→le _ (checks_in code) (below_at codes (λ c. leb (third_row c + (row_of c).punctured_bits) (checks_in c)) tt code h);
    }
