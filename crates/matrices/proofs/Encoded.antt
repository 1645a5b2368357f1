-- The encoder's bytes: their bits are the frame of the message's bits, so those of a TC code meet its equations. Assumes nothing.
use mathlib.Core.Path.{◌≡◌, sym, ap, ◌∙◌}
use mathlib.Core.List.{List}
use Prim.Native.Nat.{ℕ, ◌-◌, ◌*◌, ◌/◌, ◌%◌, ◌<◌}
use native.Mathlib.Nat.{mod-mod}
use native.Mathlib.Decide.{dec_lt}
use native.Mathlib.Omega.{arith}
use lib.ListN.{length, take, length-append}
use lib.Seq.{take_at}
use borrow.Author.Tests.{le-ltb}
use Rattle.maths.specs.Sums.{sum_n}
use Rattle.maths.specs.Bits.{bit_at}
use Rattle.maths.specs.Bytes.{Bytes, pack}
use Rattle.maths.proofs.Bytes.{bit_at_left, bit_at_right, bit_at_pack, length_pack, bytes_pack, bytes_append}
use Rattle.codes.specs.Codes.{Known, TC, row_of, circulant_of}
use Rattle.codes.specs.Equations.{Meets}
use Rattle.codes.specs.Frames.{adds, generator, parity_of, frame_of, encoded_bytes}
use Rattle.matrices.proofs.Sizes.{parity_bytes, Sizes, sizes, tc_bits}
use Rattle.matrices.proofs.Edges.{meets_same}
use Rattle.matrices.proofs.Frames.{frame_data}
use Rattle.matrices.proofs.Telecommand.{frame_meets}

-- the bytes of parity
abbrev tail : ℕ → List ℕ → List ℕ
tail code msg = pack (parity_of code (bit_at msg)) (parity_bytes code)

-- the encoder's bytes are bytes if the message is
pub encoded_bytes_lem : (code : ℕ) (msg : List ℕ) → Bytes msg → Bytes (encoded_bytes code msg)
unfolding encoded_bytes
encoded_bytes_lem code msg h = bytes_append msg (tail code msg) h (bytes_pack (parity_of code (bit_at msg)) (parity_bytes code))

-- the first k/8 of them are the message
pub encoded_front : (code : ℕ) (msg : List ℕ) → length msg ≡ (row_of code).k / 8 → take ((row_of code).k / 8) (encoded_bytes code msg) ≡ msg
unfolding encoded_bytes
encoded_front code msg len = take_at msg (tail code msg) ((row_of code).k / 8) len

module _ (code : ℕ) (known : Known code) (msg : List ℕ) (len : length msg ≡ (row_of code).k / 8) where
  -- there are n/8 of them
  pub encoded_length : length (encoded_bytes code msg) ≡ (row_of code).n / 8
  unfolding encoded_bytes
  encoded_length =
      let s = sizes code known in
      length-append msg (tail code msg) ∙ omega (arith, length_pack (parity_of code (bit_at msg)) (parity_bytes code))

  -- their bits are those of the frame of the message's bits
  pub encoded_bits : (v : ℕ) → v < (row_of code).n → bit_at (encoded_bytes code msg) v ≡ frame_of code (bit_at msg) v
  unfolding encoded_bytes
  encoded_bits v h = go (dec_lt v k)
    where
      k : ℕ
      k = (row_of code).k

      s : Sizes code
      s = sizes code known

      bits : length msg * 8 ≡ k
      bits = ap (λ (l : ℕ). l * 8) len ∙ s.data_bytes

      go : Dec (v < k) → bit_at (encoded_bytes code msg) v ≡ frame_of code (bit_at msg) v
      go (yes l) = bit_at_left msg (tail code msg) v (omega (arith, bits)) ∙ sym (frame_data code (bit_at msg) v l)
      go (no l) =
          bit_at_right msg (tail code msg) v (omega (arith, bits))
          ∙ ap (λ (x : ℕ). bit_at (tail code msg) (v - x)) bits
          ∙ bit_at_pack (parity_of code (bit_at msg)) (parity_bytes code) (v - k) (omega (arith, s))
          ∙ mod-mod (sum_n k (λ i. bit_at msg i * adds (circulant_of code) (generator code) i (v - k))) 2
          ∙ rw (le-ltb v k (omega arith))

-- those of a TC code meet every equation
pub encoded_meets : (code : ℕ) → TC code → (msg : List ℕ) → length msg ≡ (row_of code).k / 8 → Meets code (bit_at (encoded_bytes code msg))
encoded_meets code tc msg len =
    let known : Known code = omega arith in
    meets_same code known (frame_of code (bit_at msg)) (bit_at (encoded_bytes code msg))
    (λ v h. ap (λ (x : ℕ). x % 2) (sym (encoded_bits code known msg len v (omega (arith, tc_bits code tc))))) (frame_meets code tc (bit_at msg))
