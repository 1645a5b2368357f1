-- A block that is rotated left by one, its last byte first. Assumes nothing.
use mathlib.Core.List.{List, [], ◌∷◌, ◌++◌, append-nil, append_assoc}
use mathlib.Core.Path.{◌≡◌, refl, sym, ap, subst, ◌∙◌}
use Prim.Native.Nat.{ℕ, zero, suc, ◌+◌, ◌-◌, ◌*◌, ◌/◌, ◌%◌, ◌^◌, ◌≤◌, ◌<◌}
use native.Mathlib.Nat.{zero-add, sub-zero, mod_self, mod-mod, mod-eq_of_lt}
use native.Mathlib.Numerals.{add-one}
use native.Mathlib.Decide.{dec_lt}
use native.Mathlib.Omega.{arith}
use lib.Bits.{bit_or, or_shifted}
use lib.ListN.{length, get_or, set, take, drop, length-set, get_or-append, drop_of_length-le}
use lib.Seq.{length-take-le, take-length, take-suc, get_or-take, set_at}
use Rattle.maths.specs.Lists.{span}
use Rattle.maths.specs.Bits.{bit_at}
use Rattle.maths.specs.Bytes.{byte, pack}
use Rattle.maths.proofs.Bytes.{bit_of_lem, byte_ext, byte_is}
use Rattle.encoder.specs.Rotation.{placed, bits_from, turned, rotated}
use Rattle.encoder.proofs.Packed.{pack_ext, pack_split, pack_one}

-- a byte moved on by one bit, with a bit carried in
shifted : (x c : ℕ) → x < 256 → c < 2 → bit_or (x * 2 % 256) c ≡ x % 128 * 2 + c
shifted x c hx hc =
    let e : x * 2 % 256 ≡ x % 128 * 2 = omega arith in
    rw e (or_shifted (x % 128) 1 c hc)

-- its bits: all but the last are the byte's next ones
bit_moved : (x c t : ℕ) → x < 256 → c < 2 → t < 7 → (x % 128 * 2 + c) / 2 ^ (7 - t) % 2 ≡ x / 2 ^ (7 - (t + 1)) % 2
bit_moved x c zero hx hc h = omega arith
bit_moved x c (suc zero) hx hc h = omega arith
bit_moved x c (suc (suc zero)) hx hc h = omega arith
bit_moved x c (suc (suc (suc zero))) hx hc h = omega arith
bit_moved x c (suc (suc (suc (suc zero)))) hx hc h = omega arith
bit_moved x c (suc (suc (suc (suc (suc zero))))) hx hc h = omega arith
bit_moved x c (suc (suc (suc (suc (suc (suc zero)))))) hx hc h = omega arith
bit_moved x c (suc (suc (suc (suc (suc (suc (suc t))))))) hx hc h = absurd (omega arith)

-- the bits of the rotated block
abbrev after : List ℕ → ℕ → ℕ
after s = turned (length s * 8) (bit_at s)

-- the rotated block is made of them
pub rotated_is : (s : List ℕ) → rotated s 0 (length s) ≡ pack (after s) (length s)
unfolding rotated placed
rotated_is s =
    rw (zero-add (length s), drop_of_length-le s {i = length s} (omega arith), append-nil (pack (turned (length s * 8) (bits_from s 0)) (length s)))
    (pack_ext _ _ (length s) (λ j l. ap (λ (n : ℕ). bit_at s n % 2) (omega arith)))

-- the bytes from i on are done, and the first bit of the byte after those left is carried
pub record Turning (s t : List ℕ) (carry i : ℕ) : Type 0 where
  pub low : i ≤ length s
  pub long : length t ≡ length s
  pub is : t ≡ take i s ++ pack (λ j. after s (i * 8 + j)) (length s - i)
  pub carried : carry ≡ get_or s (i % length s) 0 / 128
  pub small : carry < 2

module _ (s : List ℕ) (some : 1 ≤ length s) where
  pub turning_first : get_or s 0 0 < 256 → Turning s s (get_or s 0 0 / 128) (length s)
  unfolding pack span
  turning_first h =
      let e : length s - length s ≡ 0 = omega arith in
      record {
        low = omega arith;
        long = refl;
        is = rw (e, take-length s) (sym (append-nil s));
        carried = rw (mod_self (length s));
        small = omega arith;
      }

  pub turning_last : {t : List ℕ} {carry i : ℕ} → Turning s t carry i → i ≤ 0 → t ≡ rotated s 0 (length s)
  turning_last {t} {carry} {i} r h =
      let e : i ≡ 0 = omega arith in
      r.is ∙ rw (e, sub-zero (length s)) (pack_ext _ _ (length s) (λ j l. ap (λ (n : ℕ). after s n % 2) (zero-add j))) ∙ sym (rotated_is s)

  -- the first bit after byte i, which is that of the block behind its last byte
  next_bit : (i : ℕ) → i < length s → (i * 8 + 7 + 1) % (length s * 8) ≡ (i + 1) % length s * 8
  next_bit i h = go (dec_lt (i + 1) (length s))
    where
      go : Dec (i + 1 < length s) → (i * 8 + 7 + 1) % (length s * 8) ≡ (i + 1) % length s * 8
      go (yes l) = rw (mod-eq_of_lt l) (mod-eq_of_lt {n = i * 8 + 7 + 1} {m = length s * 8} (omega arith) ∙ omega arith)
      go (no l) =
          let e : i + 1 ≡ length s = omega arith in
          let f : i * 8 + 7 + 1 ≡ length s * 8 = omega arith in
          rw (e, f, mod_self (length s), mod_self (length s * 8))

  -- byte i of the rotated block, of byte i and of the first bit after it
  turned_byte : (i x c : ℕ) → i < length s → x ≡ get_or s i 0 → x < 256 → c ≡ get_or s ((i + 1) % length s) 0 / 128 → c < 2
      → byte (after s) i ≡ bit_or (x * 2 % 256) c
  turned_byte i x c h e low f small = rw (shifted x c low small) (byte_is (after s) i (x % 128 * 2 + c) (omega arith) bits)
    where
      bits : (t : ℕ) → t < 8 → bit_at s ((i * 8 + t + 1) % (length s * 8)) % 2 ≡ (x % 128 * 2 + c) / 2 ^ (7 - t) % 2
      bits t l = go (dec_lt t 7)
        where
          go : Dec (t < 7) → bit_at s ((i * 8 + t + 1) % (length s * 8)) % 2 ≡ (x % 128 * 2 + c) / 2 ^ (7 - t) % 2
          go (yes m) =
              let p : i * 8 + t + 1 ≡ i * 8 + (t + 1) = omega arith in
              rw (mod-eq_of_lt {n = i * 8 + t + 1} {m = length s * 8} (omega arith), p, bit_of_lem s i (t + 1) (omega arith), ← e, bit_moved x c t low small m)
              (mod-mod (x / 2 ^ (7 - (t + 1))) 2)
          go (no m) =
              let q : t ≡ 7 = omega arith in
              let p : (i + 1) % length s * 8 ≡ (i + 1) % length s * 8 + 0 = omega arith in
              rw (q, next_bit i h, p, bit_of_lem s ((i + 1) % length s) 0 (omega arith)) (omega arith)

  module _ {t : List ℕ} {carry : ℕ} (m x : ℕ) (r : Turning s t carry (m + 1)) (e : x ≡ get_or t m 0) (low : x < 256) where
    -- byte m still stands as it did
    front : take (m + 1) s ≡ take m s ++ (get_or s m 0 ∷ [])
    front = ap (λ (n : ℕ). take n s) (add-one m) ∙ take-suc s m 0 (omega (arith, r.low))

    left : x ≡ get_or s m 0
    left =
        let l : length (take (m + 1) s) ≡ m + 1 = length-take-le (m + 1) s r.low in
        e ∙ ap (λ (y : List ℕ). get_or y m 0) r.is ∙ get_or-append (take (m + 1) s) _ 0 m (omega arith) ∙ get_or-take (m + 1) s m 0 (omega arith)

    written : set t m (bit_or (x * 2 % 256) carry) ≡ take m s ++ pack (λ j. after s (m * 8 + j)) (length s - m)
    written =
        let F : ℕ → ℕ = λ j. after s (m * 8 + j) in
        let n : length s - m ≡ 1 + (length s - (m + 1)) = omega (arith, r.low) in
        let rest : pack (λ j. after s ((m + 1) * 8 + j)) (length s - (m + 1)) ≡ pack (λ j. F (1 * 8 + j)) (length s - (m + 1)) =
        pack_ext _ _ (length s - (m + 1)) (λ j l. ap (λ (k : ℕ). after s k % 2) (omega arith)) in
        let more : List ℕ = pack (λ j. F (1 * 8 + j)) (length s - (m + 1)) in
        let first : byte F 0 ≡ bit_or (x * 2 % 256) carry =
        byte_ext F (after s) 0 m (λ k l. ap (λ (j : ℕ). F j % 2) (zero-add k))
        ∙ turned_byte m x carry (omega (arith, r.low)) left low r.carried r.small in
        ap (λ (y : List ℕ). set y m (bit_or (x * 2 % 256) carry)) (r.is ∙ rw (front, rest, append_assoc (take m s) (get_or s m 0 ∷ []) more))
        ∙ set_at (take m s) (get_or s m 0) more (bit_or (x * 2 % 256) carry) m (length-take-le m s (omega (arith, r.low)))
        ∙ rw (n, pack_split F 1 (length s - (m + 1)), pack_one F, first)

    pub turning_one : Turning s (set t m (bit_or (x * 2 % 256) carry)) (x / 128) m
    turning_one =
        record {
          low = omega (arith, r.low);
          long = length-set t m (bit_or (x * 2 % 256) carry) ∙ r.long;
          is = written;
          carried = rw (mod-eq_of_lt {n = m} {m = length s} (omega (arith, r.low)), left);
          small = omega arith;
        }

  pub turning_next : {t : List ℕ} {carry i : ℕ} → Turning s t carry i → 0 < i → (x : ℕ) → x ≡ get_or t (i - 1) 0 → x < 256
      → Turning s (set t (i - 1) (bit_or (x * 2 % 256) carry)) (x / 128) (i - 1)
  turning_next {t} {carry} {i} r h x e low =
      let p : i ≡ i - 1 + 1 = omega arith in
      turning_one (i - 1) x (subst (Turning s t carry) p r) e low

-- a part that is the whole block
pub rotated_part : (n : ℕ) (s u : List ℕ) → length s ≡ n → u ≡ rotated (take n s) 0 (length (take n s)) → u ++ drop n s ≡ rotated s 0 (length s)
rotated_part n s u h e =
    rw (e, ap (λ (x : ℕ). rotated (take x s) 0 (length (take x s))) (sym h) ∙ ap (λ (x : List ℕ). rotated x 0 (length x)) (take-length s), drop_of_length-le s {i = n} (omega arith)) (append-nil _)

pub part_long : (n : ℕ) (s : List ℕ) → length s ≡ n → n ≡ length (take n s)
part_long n s h = sym (length-take-le n s (omega arith))
