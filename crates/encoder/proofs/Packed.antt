-- Bytes made of bits: by their parts, and of a sum modulo 2. Assumes nothing.
use mathlib.Core.List.{List, [], ◌∷◌, ◌++◌}
use mathlib.Core.Path.{◌≡◌, refl, ap, ◌∙◌}
use Prim.Native.Nat.{ℕ, zero, suc, ◌+◌, ◌-◌, ◌*◌, ◌/◌, ◌%◌, ◌^◌, ◌<◌}
use native.Mathlib.Nat.{zero-add}
use native.Mathlib.Omega.{arith}
use lib.Bits.{bit_xor, xor_shr, xor_add_and}
use lib.Pow.{shr-shr}
use Rattle.maths.specs.Lists.{span}
use Rattle.maths.specs.Bytes.{byte, pack}
use Rattle.maths.proofs.Lists.{span_split, span_ext}
use Rattle.maths.proofs.Bytes.{byte_ext}

-- ---- bytes of bits, one after the other
pub pack_ext : (f g : ℕ → ℕ) (n : ℕ) → ((j : ℕ) → j < n * 8 → f j % 2 ≡ g j % 2) → pack f n ≡ pack g n
unfolding pack
pack_ext f g n h = span_ext (byte f) (byte g) 0 0 n (λ k l. byte_ext f g (0 + k) (0 + k) (λ t m. h ((0 + k) * 8 + t) (omega arith)))

pub pack_split : (f : ℕ → ℕ) (m n : ℕ) → pack f (m + n) ≡ pack f m ++ pack (λ j. f (m * 8 + j)) n
unfolding pack
pack_split f m n =
    span_split (byte f) 0 m n
    ∙ ap (λ (l : List ℕ). span (byte f) 0 m ++ l)
    (span_ext (byte f) (byte (λ j. f (m * 8 + j))) (0 + m) 0 n
    (λ k l. byte_ext f (λ j. f (m * 8 + j)) (0 + m + k) (0 + k) (λ t h. ap (λ (x : ℕ). f x % 2) (omega arith))))

pub pack_one : (f : ℕ → ℕ) → pack f 1 ≡ byte f 0 ∷ []
unfolding pack span
pack_one f = refl

pub pack_last : (f : ℕ → ℕ) (m : ℕ) → pack f (m + 1) ≡ pack f m ++ (byte f m ∷ [])
pack_last f m =
    pack_split f m 1
    ∙ rw (pack_one (λ j. f (m * 8 + j)), byte_ext (λ j. f (m * 8 + j)) f 0 m (λ t h. ap (λ (x : ℕ). f (m * 8 + x) % 2) (zero-add t)))

-- ---- the bits of a sum modulo 2, and of a byte of a word
xor_odd : (x y : ℕ) → bit_xor x y % 2 ≡ (x % 2 + y % 2) % 2
xor_odd x y = omega (arith, xor_add_and x y)

pub xor_bit : (x y k : ℕ) → bit_xor x y / 2 ^ k % 2 ≡ (x / 2 ^ k % 2 + y / 2 ^ k % 2) % 2
xor_bit x y k = rw (xor_shr x y k) (xor_odd (x / 2 ^ k) (y / 2 ^ k))

low_bit : (n t : ℕ) → t < 8 → n % 256 / 2 ^ (7 - t) % 2 ≡ n / 2 ^ (7 - t) % 2
low_bit n zero h = omega arith
low_bit n (suc zero) h = omega arith
low_bit n (suc (suc zero)) h = omega arith
low_bit n (suc (suc (suc zero))) h = omega arith
low_bit n (suc (suc (suc (suc zero)))) h = omega arith
low_bit n (suc (suc (suc (suc (suc zero))))) h = omega arith
low_bit n (suc (suc (suc (suc (suc (suc zero)))))) h = omega arith
low_bit n (suc (suc (suc (suc (suc (suc (suc zero))))))) h = omega arith
low_bit n (suc (suc (suc (suc (suc (suc (suc (suc t)))))))) h = absurd (omega arith)

pub word_bit_lem : (word i t : ℕ) → i < 8 → t < 8 → word / 2 ^ (56 - 8 * i) % 256 / 2 ^ (7 - t) % 2 ≡ word / 2 ^ (63 - (i * 8 + t)) % 2
word_bit_lem word i t hi ht =
    let e : 56 - 8 * i + (7 - t) ≡ 63 - (i * 8 + t) = omega arith in
    low_bit (word / 2 ^ (56 - 8 * i)) t ht ∙ rw (shr-shr word (56 - 8 * i) (7 - t), e)
