-- Rows that are added to the bits of a byte string. Assumes nothing.
use Rattle.std.proofs.Common.{◌≡◌, ℕ, ◌+◌, ◌-◌, ◌*◌, ◌%◌, ◌<◌, List, length, get_or, take, drop, refl, sym, ap, ◌∙◌, arith, add-zero, add-one}
use native.Mathlib.Nat.{zero-mul, one-mul}
use lib.Bits.{bit_xor, xor_lt}
use lib.ListN.{set}
use Rattle.maths.specs.Bits.{bit_at}
use Rattle.maths.specs.Bytes.{Bytes, byte}
use Rattle.maths.proofs.Bytes.{bit_at_low, bit_of_lem, byte_is, length_pack, bit_at_pack, pack_again}
use Rattle.encoder.specs.Rows.{added, row_bit, rows_at}
use Rattle.encoder.proofs.Packed.{xor_bit, pack_ext}
use Rattle.encoder.proofs.Grown.{Grown, grown_byte, grown_next, bit_part}

-- the bits of s with f added
abbrev pub sums : List ℕ → (ℕ → ℕ) → ℕ → ℕ
sums s f j = bit_at s j + f j

-- ---- a row, byte by byte
module _ (s g : List ℕ) where
  row_byte : (i x y : ℕ) → x ≡ get_or s i 0 → x < 256 → y ≡ get_or g i 0 → y < 256 → byte (sums s (bit_at g)) i ≡ bit_xor x y
  row_byte i x y e low f few =
      byte_is (sums s (bit_at g)) i (bit_xor x y) (xor_lt 8 x y low few) (λ t l.
      rw (xor_bit x y (7 - t), bit_of_lem s i t l, bit_of_lem g i t l, e, f))

  pub row_more : {t : List ℕ} {i : ℕ} → Grown s (sums s (bit_at g)) i t → i < length s → get_or t i 0 < 256 → get_or g i 0 < 256
      → Grown s (sums s (bit_at g)) (i + 1) (set t i (bit_xor (get_or t i 0) (get_or g i 0)))
  row_more {t} {i} r h low few =
      grown_byte s (sums s (bit_at g)) r h
      (row_byte i (get_or t i 0) (get_or g i 0) (grown_next s (sums s (bit_at g)) r i (omega arith)) low refl few)

-- ---- rows, one after the other
module _ (s : List ℕ) where
  added_none : Bytes s → (f : ℕ → ℕ) → ((j : ℕ) → f j ≡ 0) → added s f ≡ s
  unfolding added
  added_none low f h = pack_ext (sums s f) (bit_at s) (length s) (λ j l. omega (arith, h j)) ∙ pack_again s low

  pub length_added : (f : ℕ → ℕ) → length (added s f) ≡ length s
  unfolding added
  length_added f = length_pack (sums s f) (length s)

  pub bit_added : (f : ℕ → ℕ) (j : ℕ) → j < length s * 8 → bit_at (added s f) j ≡ (bit_at s j + f j) % 2
  unfolding added
  bit_added f j h = bit_at_pack (sums s f) (length s) j h

  pub added_ext : (f g : ℕ → ℕ) → ((j : ℕ) → j < length s * 8 → f j ≡ g j) → added s f ≡ added s g
  unfolding added
  added_ext f g h = pack_ext (sums s f) (sums s g) (length s) (λ j l. ap (λ (x : ℕ). (bit_at s j + x) % 2) (h j l))

  pub added_more : (f g h : ℕ → ℕ) → ((j : ℕ) → h j ≡ f j + g j) → added (added s f) g ≡ added s h
  unfolding added
  added_more f g h e =
      rw (length_pack (sums s f) (length s))
      (pack_ext _ _ (length s) (λ j l. omega (arith, bit_at_pack (sums s f) (length s) j l, e j)))

-- the rows below m have been added, of which d tells by bit c * b + o whether row c is
pub record Rowed (s : List ℕ) (b : ℕ) (G : ℕ → ℕ → ℕ) (d : ℕ → ℕ) (o m : ℕ) (t : List ℕ) : Type 0 where
  pub long : length t ≡ length s
  pub is : t ≡ added s (rows_at b G d o m)

module _ (s : List ℕ) (b : ℕ) (G : ℕ → ℕ → ℕ) (d : ℕ → ℕ) (o : ℕ) where
  pub rowed_none : Bytes s → Rowed s b G d o 0 s
  rowed_none low = record { long = refl; is = sym (added_none s low (rows_at b G d o 0) (λ j. refl)) }

  module _ {m : ℕ} {t : List ℕ} (r : Rowed s b G d o m t) where
    rows_next : (x j : ℕ) → d (m * b + o) ≡ x → rows_at b G d o (m + 1) j ≡ rows_at b G d o m j + x * G m j
    rows_next x j e = rw (add-one m, e)

    -- a row that is added, and one that is not
    pub rowed_set : d (m * b + o) ≡ 1 → {u : List ℕ} (g : ℕ → ℕ) → u ≡ added t g → ((j : ℕ) → j < length s * 8 → g j ≡ G m j) → Rowed s b G d o (m + 1) u
    rowed_set one {u} g e same =
        let made : u ≡ added s (rows_at b G d o (m + 1)) =
        e ∙ added_ext t g (G m) (λ j l. same j (omega (arith, r.long)))
        ∙ ap (λ (x : List ℕ). added x (G m)) r.is
        ∙ added_more s _ (G m) _ (λ j. rows_next 1 j one ∙ rw (one-mul (G m j)))
        in
        record { long = ap length made ∙ length_added s _; is = made }

    pub rowed_clear : d (m * b + o) ≡ 0 → Rowed s b G d o (m + 1) t
    rowed_clear none =
        record {
          long = r.long;
          is = r.is ∙ added_ext s _ _ (λ j l. sym (rows_next 0 j none ∙ rw (zero-mul (G m j), add-zero (rows_at b G d o m j))));
        }

-- a row of a list of rows, and the data bit that tells whether it is added
pub row_part : (rows : List ℕ) (c len n : ℕ) → n ≡ len → (j : ℕ) → j < len * 8 → bit_at (take n (drop (c * len) rows)) j ≡ row_bit len rows c j
row_part rows c len n e j h = rw e (bit_part rows (c * len) len j h)

pub clear_bit : (s : List ℕ) (v : ℕ) → (bit_at s v ≡ 1 → ⊥) → bit_at s v ≡ 0
clear_bit s v h = omega (arith, bit_at_low s v)
