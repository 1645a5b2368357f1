-- Blocks that are rotated one after the other. Assumes nothing.
use Rattle.std.proofs.Common.{◌≡◌, ℕ, ◌+◌, ◌*◌, ◌%◌, ◌≤◌, ◌<◌, List, length, take, drop, sym, ap, ◌∙◌, arith, add-one}
use native.Mathlib.Nat.{suc-mul, mul_assoc, mod-lt}
use lib.Arith.{digits_div, digits_mod}
use lib.Seq.{length-take-le}
use lib.ListN.{length-drop}
use borrow.Rule.Slice.PartMut.{put_mid}
use Rattle.maths.specs.Bits.{bit_at}
use Rattle.encoder.specs.Rotation.{rotated}
use Rattle.encoder.specs.Rows.{blocks_turned}
use Rattle.encoder.proofs.Turning.{rotated_is}
use Rattle.encoder.proofs.Packed.{pack_ext}
use Rattle.encoder.proofs.Grown.{Grown, grown_part, grown_bit, bit_part}

-- the bits of s, with each block of len bytes rotated
abbrev pub turned_all : List ℕ → ℕ → ℕ → ℕ
turned_all s len = blocks_turned (len * 8) (bit_at s)

module _ (s : List ℕ) (len : ℕ) (some : 1 ≤ len) where
  -- bit j of block i
  block_bit : (i j : ℕ) → j < len * 8 → turned_all s len (i * len * 8 + j) ≡ bit_at s (i * len * 8 + (j + 1) % (len * 8))
  block_bit i j h = rw (mul_assoc i len 8, digits_div i {m = len * 8} {r = j} h, digits_mod i {m = len * 8} {r = j} h)

  pub block_more : {t u : List ℕ} (i n : ℕ) → Grown s (turned_all s len) (i * len) t → i * len + len ≤ length s → n ≡ len
      → u ≡ rotated (take n (drop (i * len) t)) 0 (length (take n (drop (i * len) t))) → Grown s (turned_all s len) ((i + 1) * len) (put_mid (i * len) n t u)
  block_more {t} {u} i n g h same e =
      let long : length (take len (drop (i * len) t)) ≡ len = length-take-le len (drop (i * len) t) (omega (arith, g.long, length-drop (i * len) t)) in
      rw (same, add-one i, suc-mul i len)
      (grown_part s (turned_all s len) len g h
      (e ∙ rotated_is _ ∙ rw (same, long)
      (pack_ext _ _ len (λ j l.
      let low : (j + 1) % (len * 8) < len * 8 = mod-lt (j + 1) (omega arith) in
      ap (λ (x : ℕ). x % 2) (bit_part t (i * len) len ((j + 1) % (len * 8)) low
      ∙ grown_bit s (turned_all s len) g (i * len * 8 + (j + 1) % (len * 8)) (omega arith) ∙ sym (block_bit i j l))))))
