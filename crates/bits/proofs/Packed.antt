-- Unpacking and packing, byte by byte, and what the bits are. Assumes nothing.
use mathlib.Core.List.{List, [], ◌∷◌}
use mathlib.Core.Path.{◌≡◌, refl, sym, ap, ◌∙◌, fun_ext}
use Prim.Native.Nat.{ℕ, suc, ◌+◌, ◌*◌, ◌-◌, ◌/◌, ◌%◌, ◌^◌, ◌≤◌, ◌<◌}
use native.Mathlib.Decide.{dec_lt}
use native.Mathlib.Nat.{add-zero}
use native.Mathlib.Omega.{arith}
use lib.ListN.{length, get_or, set, get_or-eq_default}
use lib.Seq.{sets}
use Rattle.maths.specs.Bits.{bit_at}
use Rattle.maths.specs.Bytes.{byte, pack}
use Rattle.maths.specs.Lists.{span}
use Rattle.maths.proofs.Bytes.{bit_at_past}
use Rattle.maths.proofs.Slices.{overwrite_at, overwrite_all, overwrite_length}
use Rattle.bits.specs.Packed.{whole_bytes, eight, unpacked, packed}

-- ---- unpacking: the eight bits of byte i
place : (s : List ℕ) (i j x k : ℕ) → j < 8 → k ≡ 8 * i + j → x ≡ get_or s i 0 → x / 2 ^ (7 - j) % 2 ≡ bit_at s k
place s i j x k h e f =
    let q : k / 8 ≡ i = omega arith in
    let r : k % 8 ≡ j = omega arith in
    rw (q, r, f)

pub eight_bits : (s : List ℕ) (i : ℕ) {x : ℕ} → x ≡ get_or s i 0 → eight x ≡ span (bit_at s) (8 * i) 8
unfolding span
eight_bits s i {x} e =
    let b0 : x / 128 % 2 ≡ bit_at s (8 * i) = place s i 0 x (8 * i) (omega arith) (omega arith) e in
    let b1 : x / 64 % 2 ≡ bit_at s (suc (8 * i)) = place s i 1 x (suc (8 * i)) (omega arith) (omega arith) e in
    let b2 : x / 32 % 2 ≡ bit_at s (suc (suc (8 * i))) = place s i 2 x (suc (suc (8 * i))) (omega arith) (omega arith) e in
    let b3 : x / 16 % 2 ≡ bit_at s (suc (suc (suc (8 * i)))) = place s i 3 x (suc (suc (suc (8 * i)))) (omega arith) (omega arith) e in
    let b4 : x / 8 % 2 ≡ bit_at s (suc (suc (suc (suc (8 * i))))) = place s i 4 x (suc (suc (suc (suc (8 * i))))) (omega arith) (omega arith) e in
    let b5 : x / 4 % 2 ≡ bit_at s (suc (suc (suc (suc (suc (8 * i)))))) = place s i 5 x (suc (suc (suc (suc (suc (8 * i)))))) (omega arith) (omega arith) e in
    let b6 : x / 2 % 2 ≡ bit_at s (suc (suc (suc (suc (suc (suc (8 * i))))))) = place s i 6 x (suc (suc (suc (suc (suc (suc (8 * i))))))) (omega arith) (omega arith) e in
    let b7 : x % 2 ≡ bit_at s (suc (suc (suc (suc (suc (suc (suc (8 * i)))))))) = omega (arith, place s i 7 x (suc (suc (suc (suc (suc (suc (suc (8 * i)))))))) (omega arith) (omega arith) e) in
    cc

-- the bits of a byte string that fills the list
pub unpacked_word : (s d : List ℕ) → 8 * length s ≡ length d → (λ v. get_or (unpacked s d) v 0) ≡ bit_at s
unpacked_word s d e = fun_ext (λ v. go v (dec_lt v (length d)))
  where
    all : 8 * whole_bytes (length s) (length d) ≡ length d
    all = omega arith

    go : (v : ℕ) → Dec (v < length d) → get_or (unpacked s d) v 0 ≡ bit_at s v
    go v (yes h) = overwrite_at (bit_at s) d 0 (8 * whole_bytes (length s) (length d)) v (omega (arith, all))
    go v (no h) =
        let n : length (unpacked s d) ≤ v = omega (arith, overwrite_length (bit_at s) d (8 * whole_bytes (length s) (length d)) (omega (arith, all))) in
        get_or-eq_default (unpacked s d) 0 n ∙ sym (bit_at_past s v (omega arith))

-- eight stores, one after the other
pub eight_stored : (l : List ℕ) (v a b c d e f g h : ℕ)
    → set (set (set (set (set (set (set (set l v a) (v + 1) b) (v + 2) c) (v + 3) d) (v + 4) e) (v + 5) f) (v + 6) g) (v + 7) h
    ≡ sets l v (a ∷ b ∷ c ∷ d ∷ e ∷ f ∷ g ∷ h ∷ [])
eight_stored l v a b c d e f g h =
    let n1 : v + 1 ≡ suc v = omega arith in
    let n2 : v + 2 ≡ suc (suc v) = omega arith in
    let n3 : v + 3 ≡ suc (suc (suc v)) = omega arith in
    let n4 : v + 4 ≡ suc (suc (suc (suc v))) = omega arith in
    let n5 : v + 5 ≡ suc (suc (suc (suc (suc v)))) = omega arith in
    let n6 : v + 6 ≡ suc (suc (suc (suc (suc (suc v))))) = omega arith in
    let n7 : v + 7 ≡ suc (suc (suc (suc (suc (suc (suc v)))))) = omega arith in
    rw (n1, n2, n3, n4, n5, n6, n7)

-- ---- packing: bytes that a list of bits fills
pub packed_whole : (w d : List ℕ) → 8 * length d ≡ length w → packed w d ≡ pack (λ v. get_or w v 0) (length d)
unfolding pack
packed_whole w d e = overwrite_all (byte (λ v. get_or w v 0)) d (whole_bytes (length d) (length w)) refl (omega arith) (omega arith)

-- the byte of eight bits, as it is summed
pub packed_byte : (w : List ℕ) (v : ℕ)
    → get_or w v 0 % 2 * 128 + get_or w (v + 1) 0 % 2 * 64 + get_or w (v + 2) 0 % 2 * 32 + get_or w (v + 3) 0 % 2 * 16 + get_or w (v + 4) 0 % 2 * 8 + get_or w (v + 5) 0 % 2 * 4 + get_or w (v + 6) 0 % 2 * 2 + get_or w (v + 7) 0 % 2
    ≡ byte (λ t. get_or w (v + t) 0) 0
packed_byte w v = omega (arith, ap (λ (i : ℕ). get_or w i 0) (add-zero v))
