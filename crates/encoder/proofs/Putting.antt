-- The words of a generator put as bytes, and the rows that these are. Assumes nothing.
use mathlib.Core.List.{List}
use mathlib.Core.Path.{◌≡◌, refl, sym, ap, ◌∙◌, fun_ext}
use Prim.Native.Nat.{ℕ, ◌+◌, ◌-◌, ◌*◌, ◌/◌, ◌%◌, ◌^◌, ◌≤◌, ◌<◌}
use native.Mathlib.Decide.{dec_lt}
use native.Mathlib.Nat.{mod-lt, mod-mod, zero-div, div-one, mul_assoc}
use native.Mathlib.Omega.{arith}
use lib.ListN.{length, get_or, get_or-eq_default}
use Rattle.std.specs.Int.{w64, to_be_bytes}
use borrow.Rule.Slice.PartMut.{put_mid}
use Rattle.maths.specs.Lists.{span}
use Rattle.maths.specs.Bits.{bit_at}
use Rattle.maths.specs.Bytes.{byte, pack}
use Rattle.maths.proofs.Bytes.{byte_is, length_pack, bit_at_pack, bit_at_past}
use Rattle.codes.specs.Frames.{generator_bit}
use Rattle.encoder.specs.Rows.{word_bit, words_bit, row_bit}
use Rattle.encoder.proofs.Packed.{word_bit_lem, pack_ext}
use Rattle.encoder.proofs.Grown.{Grown, grown_part}

-- ---- a word
word_byte : (word i : ℕ) → i < 8 → byte (word_bit word) i ≡ word / 2 ^ (56 - 8 * i) % 256
word_byte word i h =
    byte_is (word_bit word) i (word / 2 ^ (56 - 8 * i) % 256) (mod-lt (word / 2 ^ (56 - 8 * i)) (omega arith))
    (λ t l. rw (word_bit_lem word i t h l) (mod-mod (word / 2 ^ (63 - (i * 8 + t))) 2))

word_bytes : (word : ℕ) → to_be_bytes w64 word ≡ pack (word_bit word) 8
unfolding pack span
word_bytes word =
    sym (rw (word_byte word 0 (omega arith), word_byte word 1 (omega arith), word_byte word 2 (omega arith), word_byte word 3 (omega arith), word_byte word 4 (omega arith), word_byte word 5 (omega arith), word_byte word 6 (omega arith), word_byte word 7 (omega arith), div-one word) refl)

-- ---- words, one after the other
module _ (s g : List ℕ) where
  words_bit_lem : (i j : ℕ) → j < 64 → word_bit (get_or g i 0) j ≡ words_bit g (i * 8 * 8 + j)
  words_bit_lem i j h =
      let q : (i * 8 * 8 + j) / 64 ≡ i = omega arith in
      let m : (i * 8 * 8 + j) % 64 ≡ j = omega arith in
      rw (q, m)

  pub words_more : {t u : List ℕ} (i n : ℕ) → Grown s (words_bit g) (i * 8) t → i * 8 + 8 ≤ length s → n ≡ 8
      → u ≡ to_be_bytes w64 (get_or g i 0) → Grown s (words_bit g) ((i + 1) * 8) (put_mid (i * 8) n t u)
  words_more {t} {u} i n r h same e =
      let next : (i + 1) * 8 ≡ i * 8 + 8 = omega arith in
      rw (same, next)
      (grown_part s (words_bit g) 8 r h
      (e ∙ word_bytes (get_or g i 0) ∙ pack_ext _ _ 8 (λ j l. ap (λ (x : ℕ). x % 2) (words_bit_lem i j l))))

-- ---- the rows of the generator g, which t holds
module _ (g : List ℕ) {t : List ℕ} (e : t ≡ pack (words_bit g) (length g * 8)) where
  pub words_long : length t ≡ length g * 8
  words_long = ap length e ∙ length_pack (words_bit g) (length g * 8)

  word_at : (v : ℕ) → bit_at t v ≡ words_bit g v
  word_at v = go (dec_lt v (length g * 8 * 8))
    where
      go : Dec (v < length g * 8 * 8) → bit_at t v ≡ words_bit g v
      go (yes l) =
          ap (λ (x : List ℕ). bit_at x v) e
          ∙ bit_at_pack (words_bit g) (length g * 8) v l
          ∙ mod-mod (get_or g (v / 64) 0 / 2 ^ (63 - v % 64)) 2
      go (no l) =
          let past : length g ≤ v / 64 = omega arith in
          bit_at_past t v (omega (arith, words_long)) ∙ rw (get_or-eq_default g 0 past, zero-div (2 ^ (63 - v % 64)))

  pub rows_generator : (r : ℕ) → r ≡ r / 64 * 64 → row_bit (r / 8) t ≡ generator_bit (r / 64) g
  rows_generator r h =
      fun_ext (λ c. fun_ext (λ j.
      let b : r / 8 ≡ r / 64 * 8 = omega arith in
      let n : c * (r / 64 * 8) * 8 ≡ c * (r / 64) * 64 = omega (arith, mul_assoc c (r / 64) 8) in
      let q : (c * (r / 64) * 64 + j) / 64 ≡ c * (r / 64) + j / 64 = omega arith in
      let m : (c * (r / 64) * 64 + j) % 64 ≡ j % 64 = omega arith in
      word_at (c * (r / 8) * 8 + j) ∙ rw (b, n, q, m)))
