-- Pairs of hex digits. Assumes nothing.
use Rattle.std.proofs.Common.{◌≡◌, ℕ, zero, suc, ◌+◌, ◌*◌, ◌/◌, ◌%◌, ◌<◌, ◌≤◌, true, List, [], ◌∷◌, Option, Some, None, is_some, length, get_or, set, drop, add-one, drop_of_length-le, refl, ap, ◌∙◌, eq-eqb, arith}
use Rattle.std.specs.List.{list_all}
use Rattle.std.specs.Simd.{first_chunks}
use Rattle.std.proofs.lemmas.Bool.Decides.{nat_tests}
use Rattle.std.proofs.lemmas.List.Edits.{sets}
use Rattle.maths.specs.Bytes.{Bytes}
use Rattle.sheet_values.specs.Spelling.{glyph, hex}
use Rattle.sheet_values.specs.Values.{value_of, hex_digit, hex_text, unhex}
use Rattle.sheet_values.proofs.Glyphs.{value_glyph, glyph_value}

-- what hex digits say: their number is even, and each has a value
pub record Hex (v : List ℕ) : Type 0 where
  pub even : length v % 2 ≡ 0
  pub digits : list_all hex_digit v ≡ true

pub hex_parts : (v : List ℕ) → hex_text v ≡ true → Hex v
unfolding hex_text
hex_parts v e = record { even = grind (arith, nat_tests); digits = grind (arith, nat_tests) }

pub hex_made : (v : List ℕ) → Hex v → hex_text v ≡ true
unfolding hex_text
hex_made v h = rw (eq-eqb _ _ h.even, h.digits)

-- the value of a digit
pub record Digit (b d : ℕ) : Type 0 where
  pub value : value_of b ≡ Some d
  pub low : d < 16

pub digit : (b : ℕ) → hex_digit b ≡ true → (d : ℕ) × Digit b d
digit b e = go (value_of b) refl e
  where
    go : (o : Option ℕ) → value_of b ≡ o → is_some o ≡ true → (d : ℕ) × Digit b d
    go (Some d) q e = (d, record { value = q; low = (glyph_value b d q).1 })
    go None q e = absurd (let z : ◌≡◌ {A = ℕ} 0 1 = cc in omega arith)

-- two digits at the front
pub record Two (a b : ℕ) (s : List ℕ) : Type 0 where
  pub first : (d : ℕ) × Digit a d
  pub second : (d : ℕ) × Digit b d
  pub rest : list_all hex_digit s ≡ true

pub two : (a b : ℕ) (s : List ℕ) → list_all hex_digit (a ∷ b ∷ s) ≡ true → Two a b s
two a b s e = record { first = digit a (grind (arith, nat_tests)); second = digit b (grind (arith, nat_tests)); rest = grind (arith, nat_tests) }

-- ---- the pair at a place of the text, as one of its chunks
pub record Pair (v p : List ℕ) (j : ℕ) : Type 0 where
  pub high : ℕ
  pub low : ℕ
  pub high_is : Digit (get_or p 0 0) high
  pub low_is : Digit (get_or p 1 0) low
  pub next : unhex (drop (2 * j) v) ≡ (16 * high + low) ∷ unhex (drop (2 * (j + 1)) v)

chunk : (n : ℕ) (v : List ℕ) (j : ℕ) → list_all hex_digit v ≡ true → 2 * n ≤ length v → j < n → Pair v (get_or (first_chunks 2 n v) j []) j
unfolding unhex
chunk zero v j t h l = absurd (omega arith)
chunk (suc n) [] j t h l = absurd (omega arith)
chunk (suc n) (a ∷ []) j t h l = absurd (omega arith)
chunk (suc n) (a ∷ b ∷ s) zero t h l =
    let d = two a b s t in
    record { high = d.first.0; low = d.second.0; high_is = d.first.1; low_is = d.second.1; next = rw (d.first.1.value, d.second.1.value) }
chunk (suc n) (a ∷ b ∷ s) (suc j) t h l =
    let r = chunk n s j (two a b s t).rest (omega arith) (omega arith) in
    let e : 2 * suc j ≡ suc (suc (2 * j)) = omega arith in
    let f : 2 * (suc j + 1) ≡ suc (suc (2 * (j + 1))) = omega arith in
    record { high = r.high; low = r.low; high_is = r.high_is; low_is = r.low_is; next = rw (e, f) r.next }

pub pair : (v : List ℕ) (ps : List (List ℕ)) (j : ℕ) → hex_text v ≡ true → ps ≡ first_chunks 2 (length v / 2) v → length ps ≡ length v / 2 → j < length ps
    → Pair v (get_or ps j []) j
pair v ps j t e n h = rw e (chunk (length v / 2) v j (hex_parts v t).digits (omega arith) (omega arith))

-- the bytes that are left to be written, before and after a pair's, and at the end
module _ (v l all : List ℕ) (j : ℕ) (e : sets l j (unhex (drop (2 * j) v)) ≡ all) where
  pub pair_set : (q : List ℕ) (p : Pair v q j) (a b : ℕ) → value_of (get_or q 0 0) ≡ Some a → value_of (get_or q 1 0) ≡ Some b
      → sets (set l j (16 * a + b)) (j + 1) (unhex (drop (2 * (j + 1)) v)) ≡ all
  pair_set q p a b f g =
      let x : a ≡ p.high = let h = p.high_is.value in cc in
      let y : b ≡ p.low = let h = p.low_is.value in cc in
      rw (x, y) (ap (λ (k : ℕ). sets (set l j (16 * p.high + p.low)) k (unhex (drop (2 * (j + 1)) v))) (add-one j) ∙ rw p.next at e)

  pub pairs_end : length v / 2 ≤ j → hex_text v ≡ true → l ≡ all
  unfolding unhex
  pairs_end h t =
      let g : length v ≤ 2 * j = omega (arith, (hex_parts v t).even) in
      rw (drop_of_length-le v g) at e

-- ---- what is read was spelled, and what is spelled is read
pub unhex_length : (v : List ℕ) → length v % 2 ≡ 0 → 2 * length (unhex v) ≡ length v
unfolding unhex
unhex_length [] e = refl
unhex_length (a ∷ []) e = absurd (omega arith)
unhex_length (a ∷ b ∷ s) e = omega (arith, unhex_length s (omega arith))

pairs_spelled : (v : List ℕ) → length v % 2 ≡ 0 → list_all hex_digit v ≡ true → (v ≡ hex (unhex v)) × Bytes (unhex v)
unfolding hex unhex
pairs_spelled [] e t = (refl, λ i h. absurd (omega arith))
pairs_spelled (a ∷ []) e t = absurd (omega arith)
pairs_spelled (a ∷ b ∷ s) e t =
    let d = two a b s t in
    let q : (16 * d.first.0 + d.second.0) / 16 ≡ d.first.0 = omega (arith, d.second.1.low) in
    let r : (16 * d.first.0 + d.second.0) % 16 ≡ d.second.0 = omega (arith, d.second.1.low) in
    let m = pairs_spelled s (omega arith) d.rest in (
      rw (d.first.1.value, d.second.1.value, q, r, (glyph_value a _ d.first.1.value).0, (glyph_value b _ d.second.1.value).0, ← m.0),
      bytes d.first.0 d.second.0 d.first.1 d.second.1 m.1,
    )
  where
    bytes : (x y : ℕ) → Digit a x → Digit b y → Bytes (unhex s) → Bytes (unhex (a ∷ b ∷ s))
    bytes x y p q m zero h = rw (p.value, q.value) (omega (arith, p.low, q.low))
    bytes x y p q m (suc i) h = m i (omega arith)

pub hex_spelled : (v : List ℕ) → hex_text v ≡ true → (v ≡ hex (unhex v)) × Bytes (unhex v)
hex_spelled v e = let h = hex_parts v e in pairs_spelled v h.even h.digits

pub bytes_tail : (b : ℕ) (f : List ℕ) → Bytes (b ∷ f) → Bytes f
bytes_tail b f h i l = h (suc i) (omega arith)

pub hex_length : (f : List ℕ) → length (hex f) ≡ 2 * length f
unfolding hex
hex_length [] = refl
hex_length (b ∷ f) = omega (arith, hex_length f)

-- both digits of a byte
module _ (b : ℕ) (f : List ℕ) (h : Bytes (b ∷ f)) where
  high : value_of (glyph (b / 16)) ≡ Some (b / 16)
  high = let l = h 0 (omega arith) in value_glyph (b / 16) (omega arith)

  low : value_of (glyph (b % 16)) ≡ Some (b % 16)
  low = value_glyph (b % 16) (omega arith)

hex_digits : (f : List ℕ) → Bytes f → list_all hex_digit (hex f) ≡ true
unfolding hex
hex_digits [] h = refl
hex_digits (b ∷ f) h = rw (high b f h, low b f h) (hex_digits f (bytes_tail b f h))

pub hex_read : (f : List ℕ) → Bytes f → hex_text (hex f) ≡ true
hex_read f h = hex_made (hex f) (record { even = omega (arith, hex_length f); digits = hex_digits f h })

pub unhex_hex : (f : List ℕ) → Bytes f → unhex (hex f) ≡ f
unfolding unhex hex
unhex_hex [] h = refl
unhex_hex (b ∷ f) h =
    let e : 16 * (b / 16) + b % 16 ≡ b = omega arith in
    rw (high b f h, low b f h, e, unhex_hex f (bytes_tail b f h))
