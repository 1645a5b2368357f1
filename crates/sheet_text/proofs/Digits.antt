-- The digits of a number and of bytes, as they are written and read. Assumes nothing.
use Rattle.std.proofs.Common.{Bool, min, take, inl, inr, ◌≡◌, true, List, ℕ, ◌+◌, ◌/◌, ◌%◌, ◌^◌, ◌<◌, ◌≤◌, [], ◌∷◌, ◌++◌, length, get_or, drop, sym, ap, ◌∙◌, add-one, length-append, arith}
use Rattle.std.proofs.lemmas.Bool.{cases_lt}
use lib.Seq.{drop-cons, take_all}
use Rattle.report.specs.Report.{flag}
use Rattle.sheet_values.specs.Spelling.{ascii, glyph, decimal, hex}
use Rattle.sheet_values.specs.Values.{hex_text, unhex}
use Rattle.sheet_values.proofs.Decimals.{decimal_few}
use Rattle.sheet_values.proofs.Hex.{hex_spelled}
use Rattle.sheet_text.specs.Text.{line, newline}
use Rattle.sheet_text.specs.Printing.{printed, max_output}

pub hex_unhex : (v : List ℕ) → hex_text v ≡ true → hex (unhex v) ≡ v
hex_unhex v e = sym (hex_spelled v e).0

pub hex_next : (s : List ℕ) (i : ℕ) → i < length s → hex (drop i s) ≡ glyph (get_or s i 0 / 16) ∷ glyph (get_or s i 0 % 16) ∷ hex (drop (i + 1) s)
unfolding hex
hex_next s i h = rw (add-one, drop-cons s i 0)

pub decimal_short : (n : ℕ) → n < 2 ^ 64 → length (decimal n) ≤ 20
decimal_short n h = decimal_few 19 n (omega arith)

pub line_length : (key value : List ℕ) → length (line key value) ≡ length key + length value + 1
line_length key value = length-append (key ++ value) (newline ∷ []) ∙ ap (λ (k : ℕ). k + 1) (length-append key value)

-- ---- an answer, line by line
take_min : (n : ℕ) (s : List ℕ) → take (min (length s) n) s ≡ take n s
take_min n s = elim (cases_lt n (length s)) [
  | inl h ↦ ap (λ (k : ℕ). take k s) (omega arith)
  | inr h ↦ take_all (min (length s) n) s (omega arith) ∙ sym (take_all n s h)
]

pub printed_lines : (answer iters : ℕ) (success : Bool) (output : List ℕ) {t₀ t₁ t₂ t₃ t₄ : List ℕ} {a s n : ℕ} → t₀ ≡ [] → a ≡ answer → t₁ ≡ t₀ ++ line (ascii "answer=") (decimal a)
    → s ≡ flag success → t₂ ≡ t₁ ++ line (ascii "success=") (decimal s) → t₃ ≡ t₂ ++ line (ascii "iters=") (decimal iters)
    → n ≡ min (length output) max_output → t₄ ≡ t₃ ++ line (ascii "output=") (hex (take n output)) → t₄ ≡ printed answer success iters (take max_output output)
printed_lines answer iters success output e₀ ea e₁ es e₂ e₃ en e₄ = rw (e₄, e₃, e₂, e₁, e₀, ea, es, en, take_min max_output output)
