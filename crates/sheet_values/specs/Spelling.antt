-- How the values of a sheet's lines are spelled. Assumes nothing.
use Rattle.std.specs.Prelude.{List, [], ◌∷◌, ◌++◌, ℕ, zero, suc, ◌+◌, ◌-◌, ◌/◌, ◌%◌, cond, nat_lt}
use Prim.Native.Char.{code as code_point}
use Prim.Native.String.{String, [] as ε, ◌∷◌ as ◌▹◌}
use Rattle.sheet_values.specs.declared.Op.{Op}
use Rattle.sheet_values.specs.declared.Op.TheVariants.{Encode, Bf, Ms}

-- the bytes of a word
abbrev pub ascii : String → List ℕ
ascii ε = []
ascii (c ▹ s) = code_point c ∷ ascii s

-- a digit below 16: 0 to 9, then a to f
abbrev pub glyph : ℕ → ℕ
glyph d = cond (nat_lt d 10) (48 + d) (97 + (d - 10))

-- a number in decimal, "no leading zeros": below ten its digit, else the digits of its tenth and then its last; at most depth are split off
unfoldable pub decimal_in : ℕ → ℕ → List ℕ
decimal_in zero n = glyph n ∷ []
decimal_in (suc depth) n = cond (nat_lt n 10) (glyph n ∷ []) (decimal_in depth (n / 10) ++ glyph (n % 10) ∷ [])

unfoldable pub decimal : ℕ → List ℕ
decimal n = decimal_in n n

-- "lower-case hex", two digits for a byte
unfoldable pub hex : List ℕ → List ℕ
hex [] = []
hex (b ∷ bytes) = glyph (b / 16) ∷ glyph (b % 16) ∷ hex bytes

-- "`op` (`encode`, `bf` or `ms`)"
abbrev pub name_of : Op → List ℕ
name_of Encode = ascii "encode"
name_of Bf = ascii "bf"
name_of Ms = ascii "ms"

-- "decimal, 0 to 4294967295"
abbrev pub largest : ℕ
largest = 4294967295
