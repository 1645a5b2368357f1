-- Laws of the bits of byte strings. Assumes nothing.
use mathlib.Core.Path.{◌≡◌, sym, ap, ◌∙◌}
use Prim.Native.Nat.{ℕ, zero, suc, ◌+◌, ◌-◌, ◌*◌, ◌/◌, ◌%◌, ◌^◌, ◌≤◌, ◌<◌}
use mathlib.Core.List.{List, ◌++◌}
use native.Mathlib.Nat.{zero-add, mod-lt, mod-eq_of_lt, zero-div, div-one, div-add-mod', div-div-eq-div-mul, div-lt_iff_lt-mul}
use native.Mathlib.Decide.{dec_lt}
use native.Mathlib.Omega.{arith}
use lib.Arith.{digits_lt, digits_div, digits_mod}
use lib.ListN.{length, get_or, take, replicate, length-append, length-take, get_or-append, get_or-eq_default}
use lib.Seq.{ext_get_or, get_or-append-add, get_or-take}
use Rattle.maths.specs.Lists.{span}
use Rattle.maths.specs.Sums.{sum_n}
use Rattle.maths.specs.Bits.{bit_at}
use Rattle.maths.specs.Bytes.{Bytes, byte, pack}
use Rattle.maths.proofs.Lists.{get_d_span, span_length, span_ext}
use Rattle.maths.proofs.Slices.{span_again, span_one}
use Rattle.maths.proofs.Sums.{sum_n_ext}

pub bit_at_low : (s : List ℕ) (v : ℕ) → bit_at s v < 2
bit_at_low s v = mod-lt (get_or s (v / 8) 0 / 2 ^ (7 - v % 8)) (omega arith)

-- past the last byte there is no bit
pub bit_at_past : (s : List ℕ) (v : ℕ) → length s * 8 ≤ v → bit_at s v ≡ 0
bit_at_past s v h =
    let k : length s ≤ v / 8 = omega arith in
    rw (get_or-eq_default s 0 k, zero-div (2 ^ (7 - v % 8)))

-- the bits of the first bytes
pub bit_at_take : (n : ℕ) (s : List ℕ) (v : ℕ) → v < 8 * n → bit_at (take n s) v ≡ bit_at s v
bit_at_take n s v h = rw (get_or-take n s (v / 8) 0 (omega arith))

-- bit j of byte i
pub bit_of_lem : (s : List ℕ) (i j : ℕ) → j < 8 → bit_at s (i * 8 + j) ≡ get_or s i 0 / 2 ^ (7 - j) % 2
bit_of_lem s i j h = rw (digits_div i {m = 8} {r = j} h, digits_mod i {m = 8} {r = j} h)

-- ---- a byte of given bits
pub byte_ext : (f g : ℕ → ℕ) (i j : ℕ) → ((t : ℕ) → t < 8 → f (i * 8 + t) % 2 ≡ g (j * 8 + t) % 2) → byte f i ≡ byte g j
byte_ext f g i j h =
    sum_n_ext 8 (λ t. f (i * 8 + t) % 2 * 2 ^ (7 - t)) (λ t. g (j * 8 + t) % 2 * 2 ^ (7 - t)) (λ t l. ap (λ (x : ℕ). x * 2 ^ (7 - t)) (h t l))

-- byte i is the first of the bits from 8 * i on
pub byte_from : (f : ℕ → ℕ) (i : ℕ) → byte (λ t. f (8 * i + t)) 0 ≡ byte f i
byte_from f i = byte_ext (λ t. f (8 * i + t)) f 0 i (λ t h. ap (λ (x : ℕ). f x % 2) (omega arith))

-- ---- the bytes of given bits
pub length_pack : (f : ℕ → ℕ) (n : ℕ) → length (pack f n) ≡ n
unfolding pack
length_pack f n = span_length (byte f) 0 n

byte_low : (f : ℕ → ℕ) (j : ℕ) → byte f j < 256
byte_low f j = omega arith

pub bytes_pack : (f : ℕ → ℕ) (n : ℕ) → Bytes (pack f n)
unfolding pack
bytes_pack f n i h = rw (get_d_span (byte f) 0 n i 0 (rw (span_length (byte f) 0 n) at h)) (byte_low f (0 + i))

byte_bit : (f : ℕ → ℕ) (j s : ℕ) → s < 8 → byte f j / 2 ^ (7 - s) % 2 ≡ f (j * 8 + s) % 2
byte_bit f j zero h = omega arith
byte_bit f j (suc zero) h = omega arith
byte_bit f j (suc (suc zero)) h = omega arith
byte_bit f j (suc (suc (suc zero))) h = omega arith
byte_bit f j (suc (suc (suc (suc zero)))) h = omega arith
byte_bit f j (suc (suc (suc (suc (suc zero))))) h = omega arith
byte_bit f j (suc (suc (suc (suc (suc (suc zero)))))) h = omega arith
byte_bit f j (suc (suc (suc (suc (suc (suc (suc zero))))))) h = omega arith
byte_bit f j (suc (suc (suc (suc (suc (suc (suc (suc s)))))))) h = absurd (omega arith)

pub bit_at_pack : (f : ℕ → ℕ) (n i : ℕ) → i < n * 8 → bit_at (pack f n) i ≡ f i % 2
unfolding pack
bit_at_pack f n i h =
    ap (λ (x : ℕ). x / 2 ^ (7 - i % 8) % 2)
    (get_d_span (byte f) 0 n (i / 8) 0 ((div-lt_iff_lt-mul (omega arith)).1 h) ∙ ap (byte f) (zero-add (i / 8)))
    ∙ byte_bit f (i / 8) (i % 8) (mod-lt i (omega arith)) ∙ ap (λ (x : ℕ). f x % 2) (div-add-mod' i 8)

pub pack_zero : (n : ℕ) → pack (λ v. 0) n ≡ replicate n 0
unfolding pack
pack_zero n = span_one 0 0 n

-- ---- a byte is made of its bits
half : (x m : ℕ) → x / m ≡ x / (m * 2) * 2 + x / m % 2
half x m = sym (div-add-mod' (x / m) 2) ∙ ap (λ (y : ℕ). y * 2 + x / m % 2) (div-div-eq-div-mul x m 2)

halves : (x q₁ q₂ q₃ q₄ q₅ q₆ q₇ b₀ b₁ b₂ b₃ b₄ b₅ b₆ b₇ : ℕ) → x ≡ q₁ * 2 + b₀ → q₁ ≡ q₂ * 2 + b₁ → q₂ ≡ q₃ * 2 + b₂ → q₃ ≡ q₄ * 2 + b₃
    → q₄ ≡ q₅ * 2 + b₄ → q₅ ≡ q₆ * 2 + b₅ → q₆ ≡ q₇ * 2 + b₆ → q₇ ≡ b₇
    → 0 + b₇ * 128 + b₆ * 64 + b₅ * 32 + b₄ * 16 + b₃ * 8 + b₂ * 4 + b₁ * 2 + b₀ * 1 ≡ x
halves x q₁ q₂ q₃ q₄ q₅ q₆ q₇ b₀ b₁ b₂ b₃ b₄ b₅ b₆ b₇ e₀ e₁ e₂ e₃ e₄ e₅ e₆ e₇ = omega arith

bits_byte : (x : ℕ) → x < 256 → sum_n 8 (λ i. x / 2 ^ (7 - i) % 2 * 2 ^ (7 - i)) ≡ x
bits_byte x h =
    halves x (x / 2) (x / 4) (x / 8) (x / 16) (x / 32) (x / 64) (x / 128) (x / 1 % 2) (x / 2 % 2) (x / 4 % 2) (x / 8 % 2) (x / 16 % 2) (x / 32 % 2)
    (x / 64 % 2) (x / 128 % 2) (sym (div-one x) ∙ half x 1) (half x 2) (half x 4) (half x 8) (half x 16) (half x 32) (half x 64)
    (sym (mod-eq_of_lt {n = x / 128} {m = 2} (omega arith)))

-- the byte that has these bits
pub byte_is : (f : ℕ → ℕ) (i v : ℕ) → v < 256 → ((t : ℕ) → t < 8 → f (i * 8 + t) % 2 ≡ v / 2 ^ (7 - t) % 2) → byte f i ≡ v
byte_is f i v low h =
    sum_n_ext 8 (λ t. f (i * 8 + t) % 2 * 2 ^ (7 - t)) (λ t. v / 2 ^ (7 - t) % 2 * 2 ^ (7 - t)) (λ t l. ap (λ (x : ℕ). x * 2 ^ (7 - t)) (h t l))
    ∙ bits_byte v low

-- a byte string is made of its own bits; past its end it reads 0
bytes_all : (s : List ℕ) → Bytes s → (i : ℕ) → get_or s i 0 < 256
bytes_all s h i = by (dec_lt i (length s))
  where
    by : Dec (i < length s) → get_or s i 0 < 256
    by (yes l) = h i l
    by (no l) = let k : length s ≤ i = omega arith in rw (get_or-eq_default s 0 k) (omega arith)

byte_own : (s : List ℕ) → Bytes s → (i : ℕ) → byte (bit_at s) i ≡ get_or s i 0
byte_own s h i = byte_is (bit_at s) i (get_or s i 0) (bytes_all s h i) (λ t l. mod-eq_of_lt (bit_at_low s (i * 8 + t)) ∙ bit_of_lem s i t l)

-- n bytes of its own bits, and all of them
pub pack_own : (s : List ℕ) (n : ℕ) → Bytes s → pack (bit_at s) n ≡ span (λ i. get_or s i 0) 0 n
unfolding pack
pack_own s n h = span_ext (byte (bit_at s)) (λ i. get_or s i 0) 0 0 n (λ i l. byte_own s h (0 + i))

pub pack_again : (s : List ℕ) → Bytes s → pack (bit_at s) (length s) ≡ s
pack_again s h = pack_own s (length s) h ∙ span_again 0 s

-- two byte strings of one length with the same bits are equal
pub bits_same : (s t : List ℕ) → length s ≡ length t → Bytes s → Bytes t → ((v : ℕ) → v < length s * 8 → bit_at s v ≡ bit_at t v) → s ≡ t
bits_same s t len hs ht same =
    ext_get_or 0 s t len (λ i h.
    sym (byte_own s hs i) ∙ byte_ext (bit_at s) (bit_at t) i i (λ j l. ap (λ (x : ℕ). x % 2) (same (i * 8 + j) (digits_lt h l))) ∙ byte_own t ht i)

-- ---- the bits of two strings put together
pub bit_at_left : (s t : List ℕ) (v : ℕ) → v < length s * 8 → bit_at (s ++ t) v ≡ bit_at s v
bit_at_left s t v h = rw (get_or-append s t 0 (v / 8) (omega arith))

pub bit_at_right : (s t : List ℕ) (v : ℕ) → length s * 8 ≤ v → bit_at (s ++ t) v ≡ bit_at t (v - length s * 8)
bit_at_right s t v h =
    let e : v / 8 ≡ length s + (v - length s * 8) / 8 = omega arith in
    let f : v % 8 ≡ (v - length s * 8) % 8 = omega arith in
    rw (e, f, get_or-append-add s t ((v - length s * 8) / 8) 0)

pub bytes_take : (n : ℕ) (s : List ℕ) → length (take n s) ≡ n → Bytes s → Bytes (take n s)
bytes_take n s e b i l =
    let k : i < n = omega arith in
    rw (get_or-take n s i 0 k) (b i (omega (arith, length-take n s)))

pub bytes_append : (s t : List ℕ) → Bytes s → Bytes t → Bytes (s ++ t)
bytes_append s t hs ht i h = go (dec_lt i (length s))
  where
    go : Dec (i < length s) → get_or (s ++ t) i 0 < 256
    go (yes l) = rw (get_or-append s t 0 i l) (hs i l)
    go (no l) =
        let e : i ≡ length s + (i - length s) = omega arith in
        rw (e, get_or-append-add s t (i - length s) 0) (ht (i - length s) (omega (arith, length-append s t)))
