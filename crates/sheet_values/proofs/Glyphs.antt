-- A digit and its value, and a value that is one digit. Assumes nothing.
use Rattle.std.proofs.Common.{◌≡◌, ℕ, ◌<◌, List, [], ◌∷◌, Some, ap, sym, arith}
use Rattle.std.proofs.lemmas.Bool.Decides.{nat_tests}
use Rattle.sheet_values.specs.Spelling.{glyph}
use Rattle.sheet_values.specs.Values.{value_of, decimal_value, digit_of}

pub value_glyph : (d : ℕ) → d < 16 → value_of (glyph d) ≡ Some d
unfolding value_of
value_glyph d h = grind (arith, nat_tests)

pub glyph_value : (b d : ℕ) → value_of b ≡ Some d → (glyph d ≡ b) × (d < 16)
unfolding value_of
glyph_value b d e = grind (arith, nat_tests)

pub decimal_glyph : (d : ℕ) → d < 10 → decimal_value (glyph d) ≡ Some d
decimal_glyph d h = rw (value_glyph d (omega arith)) (grind (arith, nat_tests))

pub glyph_decimal : (b d : ℕ) → decimal_value b ≡ Some d → (glyph d ≡ b) × (d < 10)
unfolding value_of
glyph_decimal b d e = grind (arith, nat_tests)

-- ---- the code's digit
pub digit_spelled : (v : List ℕ) (n : ℕ) → digit_of v ≡ Some n → (v ≡ glyph n ∷ []) × (n < 10)
digit_spelled [] n e = absurd (let z : ◌≡◌ {A = ℕ} 0 1 = cc in omega arith)
digit_spelled (b ∷ []) n e = let g = glyph_decimal b n e in (ap (λ (c : ℕ). c ∷ []) (sym g.0), g.1)
digit_spelled (b ∷ c ∷ v) n e = absurd (grind (arith, nat_tests))

pub digit_read : (n : ℕ) → n < 10 → digit_of (glyph n ∷ []) ≡ Some n
digit_read n h = decimal_glyph n h
