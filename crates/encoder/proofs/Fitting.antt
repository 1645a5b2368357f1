-- What follows from the sizes of a frame's parts. Assumes nothing.
use Rattle.std.proofs.Common.{◌≡◌, ℕ, zero, suc, ◌+◌, ◌*◌, ◌/◌, ◌^◌, ◌≤◌, ◌<◌, List, length, sym, ap, ◌∙◌, arith}
use mathlib.Core.Logic.{◌⊎◌, inl, inr}
use lib.Arith.{digits_div}
use native.Mathlib.Nat.{mul-zero, suc-mul, mul_assoc, mul-le-mul_right, eq-zero-or-pos}
use Rattle.encoder.specs.Sizes.{Laid, Parts}

-- i blocks of len and one more are within n of them, where i is below n
pub block_low : (i n len : ℕ) → i < n → i * len + len ≤ n * len
block_low i n len h = omega (arith, suc-mul i len, mul-le-mul_right {m = suc i} {n = n} len h)

-- a whole number of blocks of bytes is one of blocks of bits
pub blocks_bits : (n b : ℕ) → n ≡ n / (b / 8) * (b / 8) → b ≡ b / 8 * 8 → n * 8 ≡ n / (b / 8) * b
blocks_bits n b e h = ap (λ (x : ℕ). x * 8) e ∙ mul_assoc (n / (b / 8)) (b / 8) 8 ∙ ap (λ (x : ℕ). n / (b / 8) * x) (sym h)

module _ {s g : List ℕ} {k r b : ℕ} (z : Parts s g k r b) where
  -- a whole number of blocks is a whole number of bytes
  whole : (n : ℕ) → n ≡ n / b * b → n ≡ n / b * (b / 8) * 8
  whole n e = e ∙ ap (λ (x : ℕ). n / b * x) z.bytes ∙ sym (mul_assoc (n / b) (b / 8) 8)

  -- the parity bits are in some block, so that a block has a byte
  block_some : 8 ≤ b
  block_some = go (eq-zero-or-pos (b / 8))
    where
      go : (b / 8 ≡ zero) ⊎ (zero < b / 8) → 8 ≤ b
      go (inr h) = omega arith
      go (inl h) =
          let none : r / b * (b / 8) ≡ 0 = ap (λ (x : ℕ). r / b * x) h ∙ mul-zero (r / b) in
          absurd (omega (arith, z.some, whole r z.blocks))

  pub data_bits : k / 8 * 8 ≡ k
  data_bits = omega (arith, whole k z.rows)

  blocks_bytes : r / 8 ≡ r / 8 / (b / 8) * (b / 8)
  blocks_bytes =
      let e : r / 8 ≡ r / b * (b / 8) + 0 = omega (arith, whole r z.blocks) in
      let q : r / 8 / (b / 8) ≡ r / b = rw e (digits_div (r / b) {m = b / 8} {r = 0} (omega (arith, block_some))) in
      rw q (omega (arith, e))

  pub laid : {message parity rows : ℕ} → message ≡ k / 8 → parity ≡ r / 8 → rows ≡ length g * 8 → k < 2 ^ 64 → Laid message parity rows b
  laid {message} {parity} {rows} e f h l =
      let bits : message * 8 ≡ k = omega (arith, data_bits) in
      let row : r / 64 * 8 ≡ r / 8 = omega (arith, z.words) in
      record {
        some = block_some;
        bytes = z.bytes;
        data_blocks = rw bits z.rows;
        parity_blocks = rw f blocks_bytes;
        rows_all = h ∙ rw (bits, f) (ap (λ (x : ℕ). x * 8) z.generator ∙ mul_assoc (k / b) (r / 64) 8 ∙ ap (λ (x : ℕ). k / b * x) row);
        fits = omega arith;
      }
