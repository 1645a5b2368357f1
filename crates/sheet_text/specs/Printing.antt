-- The answer to a sheet, as a text. Assumes nothing.
use Rattle.std.specs.Prelude.{Bool, List, ◌++◌, ◌≡◌, ℕ, ◌-◌, ◌≤◌, length, take, drop, replicate}
use Rattle.std.proofs.Common.{take-append-drop, length-take-le, sym, ap, subst, ◌∙◌}
use Rattle.report.specs.Report.{flag}
use Rattle.sheet_values.specs.Spelling.{ascii, decimal, hex}
use Rattle.sheet_text.specs.Text.{line}

-- answer, success, iters, output: "each line ends with one newline"
abbrev pub head : ℕ → Bool → ℕ → List ℕ
head answer success iters =
    line (ascii "answer=") (decimal answer)
    ++ line (ascii "success=") (decimal (flag success))
    ++ line (ascii "iters=") (decimal iters)

abbrev pub printed : ℕ → Bool → ℕ → List ℕ → List ℕ
printed answer success iters output = head answer success iters ++ line (ascii "output=") (hex output)

-- the most output bytes that are printed, and the bytes that an answer has
abbrev pub max_output : ℕ
max_output = 1280

abbrev pub room : ℕ
room = 2720

-- the first len bytes are a text, then zeros
pub record Zeroed (len : ℕ) (bytes : List ℕ) : Type 0 where
  pub low : len ≤ room
  pub long : length bytes ≡ room
  pub behind : drop len bytes ≡ replicate (room - len) 0

-- so the text gives both back: its length, and it with zeros behind it
module _ (len : ℕ) (bytes : List ℕ) (z : Zeroed len bytes) where
  pub text_length : length (take len bytes) ≡ len
  text_length = length-take-le len bytes (subst (λ (n : ℕ). len ≤ n) (sym z.long) z.low)

  pub text_and_zeros : take len bytes ++ replicate (room - length (take len bytes)) 0 ≡ bytes
  text_and_zeros =
      ap (λ (n : ℕ). take len bytes ++ replicate (room - n) 0) text_length
      ∙ ap (λ (zeros : List ℕ). take len bytes ++ zeros) (sym z.behind)
      ∙ take-append-drop len bytes
