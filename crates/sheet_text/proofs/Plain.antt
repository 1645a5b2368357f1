-- The value of a line holds no newline. Assumes nothing.
use Rattle.std.proofs.Common.{◌≡◌, ℕ, ◌/◌, ◌%◌, ◌<◌, Bool, true, not, List, [], ◌∷◌, refl, arith}
use Rattle.std.specs.List.{list_all}
use Rattle.std.proofs.lemmas.Bool.Decides.{nat_tests}
use Rattle.std.proofs.lemmas.List.Folds.{list_all-append}
use Rattle.maths.specs.Bytes.{Bytes}
use Rattle.sheet_values.specs.declared.Op.{Op}
use Rattle.sheet_values.specs.declared.Op.TheVariants.{Encode, Bf, Ms}
use Rattle.sheet_values.specs.Spelling.{glyph, decimal, hex, name_of}
use Rattle.sheet_values.proofs.Decimals.{by_tenths, decimal_digit, decimal_more}
use Rattle.sheet_values.proofs.Hex.{bytes_tail}
use Rattle.sheet_text.specs.Text.{is_newline}

-- a byte that is no newline, and a digit is none
abbrev pub plain : ℕ → Bool
plain b = not (is_newline b)

plain_glyph : (d : ℕ) → d < 16 → plain (glyph d) ≡ true
plain_glyph d h = grind (arith, nat_tests)

pub digit_plain : (n : ℕ) → n < 10 → list_all plain (glyph n ∷ []) ≡ true
digit_plain n h = rw (plain_glyph n (omega arith))

pub name_plain : (op : Op) → list_all plain (name_of op) ≡ true
name_plain Encode = refl
name_plain Bf = refl
name_plain Ms = refl

pub decimal_plain : (m : ℕ) → list_all plain (decimal m) ≡ true
decimal_plain =
    by_tenths (λ m. list_all plain (decimal m) ≡ true) (λ m h. rw (decimal_digit m h, plain_glyph m (omega arith)))
    (λ m h ih. rw (decimal_more m h, list_all-append plain (decimal (m / 10)) (glyph (m % 10) ∷ []), ih, plain_glyph (m % 10) (omega arith)))

pub hex_plain : (f : List ℕ) → Bytes f → list_all plain (hex f) ≡ true
unfolding hex
hex_plain [] h = refl
hex_plain (b ∷ f) h =
    let l = h 0 (omega arith) in
    rw (plain_glyph (b / 16) (omega arith), plain_glyph (b % 16) (omega arith)) (hex_plain f (bytes_tail b f h))
