-- What a well-formed bench sheet is, as a text that is spelled out. Assumes nothing.
use Rattle.std.specs.Prelude.{Bool, ◌==◌, List, [], ◌∷◌, ◌++◌, ◌≡◌, ℕ, ◌≤◌, ◌<◌, length}
use Rattle.maths.specs.Bytes.{Bytes}
use Rattle.sheet_values.specs.declared.Op.{Op}
use Rattle.sheet_values.specs.Spelling.{ascii, glyph, decimal, hex, name_of, largest}

abbrev pub newline : ℕ
newline = 10

abbrev pub is_newline : ℕ → Bool
is_newline b = b == newline

-- "`key=value` lines .. each ended by one newline"
abbrev pub line : List ℕ → List ℕ → List ℕ
line key value = key ++ value ++ newline ∷ []

-- "four `key=value` lines in fixed order": code, op, maxiters, frame
abbrev pub spell : ℕ → Op → ℕ → List ℕ → List ℕ
spell code op limit frame =
    line (ascii "code=") (glyph code ∷ [])
    ++ line (ascii "op=") (name_of op)
    ++ line (ascii "maxiters=") (decimal limit)
    ++ line (ascii "frame=") (hex frame)

-- "at most 8,192 bytes"
abbrev pub longest : ℕ
longest = 8192

-- the text is that of a sheet with these parts
pub record Spells (text : List ℕ) (code : ℕ) (op : Op) (limit : ℕ) (frame : List ℕ) : Type 0 where
  pub spelled : text ≡ spell code op limit frame
  pub one_digit : code < 10
  pub limited : limit ≤ largest
  pub bytes : Bytes frame
  pub short : length text ≤ longest
