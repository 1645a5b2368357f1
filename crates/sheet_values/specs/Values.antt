-- Reading the value of a line. That this finds exactly what is spelled is a law, in proofs/. Assumes nothing.
use Rattle.std.specs.Prelude.{Bool, cond, ◌&&◌, ◌||◌, ◌==◌, nat_lt, nat_le, List, [], ◌∷◌, ℕ, ◌+◌, ◌-◌, ◌*◌, ◌%◌, ◌/◌, length, take, get_or, is_some, Option, Some, None}
use Rattle.std.specs.Option.{option_and_then, unwrap_or}
use Rattle.std.specs.List.{list_all}
use Rattle.std.specs.Str.{bytes_eq}
use Rattle.std.proofs.lemmas.List.Edits.{sets}
use Rattle.sheet_values.specs.declared.Op.{Op}
use Rattle.sheet_values.specs.declared.Op.TheVariants.{Encode, Bf, Ms}
use Rattle.sheet_values.specs.Spelling.{ascii, largest}

-- the value of a digit of lower-case hex
unfoldable pub value_of : ℕ → Option ℕ
value_of b =
    cond (nat_le 48 b && nat_le b 57) (Some (b - 48))
    (cond (nat_le 97 b && nat_le b 102) (Some (b - 97 + 10)) None)

-- the value of a decimal digit
abbrev pub decimal_value : ℕ → Option ℕ
decimal_value b = option_and_then (λ d. cond (nat_lt d 10) (Some d) None) (value_of b)

-- one decimal digit
abbrev pub digit_of : List ℕ → Option ℕ
digit_of v = cond (length v == 1) (decimal_value (get_or v 0 0)) None

-- n and the decimal digits after it, as long as that is at most the largest
unfoldable pub number_from : ℕ → List ℕ → Option ℕ
number_from n [] = Some n
number_from n (b ∷ s) = option_and_then (λ d. cond (nat_le (10 * n + d) largest) (number_from (10 * n + d) s) None) (decimal_value b)

-- a number in decimal: a 0 is followed by nothing
abbrev pub number_of : List ℕ → Option ℕ
number_of v = cond (length v == 0 || (get_or v 0 0 == 48 && nat_lt 1 (length v))) None (number_from 0 v)

-- the text starts with the word
abbrev pub begins : List ℕ → List ℕ → Bool
begins word s = bytes_eq (take (length word) s) word

-- the operation with this name
abbrev pub op_of : List ℕ → Option Op
op_of v =
    cond (bytes_eq v (ascii "encode")) (Some Encode)
    (cond (bytes_eq v (ascii "bf")) (Some Bf)
    (cond (bytes_eq v (ascii "ms")) (Some Ms) None))

-- pairs of hex digits
abbrev pub hex_digit : ℕ → Bool
hex_digit b = is_some (value_of b)

unfoldable pub hex_text : List ℕ → Bool
hex_text v = length v % 2 == 0 && list_all hex_digit v

-- the bytes that pairs of digits say; a byte that is no digit counts as 16
unfoldable pub unhex : List ℕ → List ℕ
unhex [] = []
unhex (a ∷ []) = []
unhex (a ∷ b ∷ s) = (16 * unwrap_or (value_of a) 16 + unwrap_or (value_of b) 16) ∷ unhex s

-- the bytes at the front of a buffer, which stays as it is where the digits are none or do not fit
abbrev pub unhexed : List ℕ → List ℕ → List ℕ
unhexed v out = cond (hex_text v && nat_le (length v / 2) (length out)) (sets out 0 (unhex v)) out
