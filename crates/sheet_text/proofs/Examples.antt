-- Texts that are well-formed, texts that are not, and answers as they are printed. Assumes nothing.
use Rattle.std.proofs.Common.{◌≡◌, true, false, ℕ, ◌<◌, List, [], ◌∷◌, ◌++◌, length, replicate, refl, ◌∙◌, append_assoc, arith}
use Rattle.std.proofs.lemmas.Bool.{lt-leb}
use Rattle.maths.specs.Tests.{all}
use Rattle.sheet_values.specs.declared.Op.TheVariants.{Encode, Bf, Ms}
use Rattle.sheet_values.specs.Spelling.{ascii, glyph, decimal_in, decimal, hex}
use Rattle.sheet_values.specs.Values.{value_of, number_from, hex_text, unhex}
use Rattle.sheet_values.proofs.Decimals.{decimal_digit}
use Rattle.sheet_text.specs.Text.{newline, line, longest}
use Rattle.sheet_text.specs.Reading.{malformed, sheet, cut, parse, unread}
use Rattle.sheet_text.specs.Printing.{printed}

lines_nested : (a b c d : List ℕ) → a ++ b ++ c ++ d ≡ a ++ (b ++ (c ++ d))
lines_nested a b c d = simp append_assoc

-- the document's sheet and its answer
pub document_read : parse (ascii "code=0\nop=bf\nmaxiters=1\nframe=00000000000000000000000000000000\n") ≡ sheet 0 Bf 1 (replicate 16 0)
unfolding value_of number_from hex_text unhex cut parse
document_read = refl

pub document_printed : printed 0 true 0 (replicate 16 0) ≡ ascii "answer=0\nsuccess=1\niters=0\noutput=00000000000000000000000000000000\n"
unfolding decimal_in decimal hex
document_printed = refl

-- codes that are not known and an empty frame are well-formed, and so is every limit up to the largest
pub edges_read : (parse (ascii "code=9\nop=encode\nmaxiters=0\nframe=\n") ≡ sheet 9 Encode 0 [])
    × (parse (ascii "code=6\nop=ms\nmaxiters=4294967295\nframe=0f\n") ≡ sheet 6 Ms 4294967295 (15 ∷ []))
unfolding value_of number_from hex_text unhex cut parse
edges_read = (refl, refl)

-- everything else is malformed
pub others_refused : all (λ s. unread (parse s)) (
    ascii "" ∷
    ascii "code=0\nop=bf\nmaxiters=01\nframe=00\n" ∷
    ascii "code=0\nop=bf\nmaxiters=4294967296\nframe=00\n" ∷
    (ascii "code=0\nop=bf\nmaxiters=" ++ replicate 3000 57 ++ ascii "\nframe=00\n") ∷
    ascii "code=0\nop=bf\nmaxiters=\nframe=00\n" ∷
    ascii "code=0\nop=bf\nmaxiters=1\nframe=0A\n" ∷
    ascii "code=0\nop=bf\nmaxiters=1\nframe=000\n" ∷
    ascii "code=0\r\nop=bf\r\nmaxiters=1\r\nframe=00\r\n" ∷
    ascii "code=0\nop=bf\nmaxiters=1\nframe=00" ∷
    ascii "code=0\nop=bf\nmaxiters=1\nframe=00\n\n" ∷
    ascii "code=10\nop=bf\nmaxiters=1\nframe=00\n" ∷
    ascii "code=0\nop=Bf\nmaxiters=1\nframe=00\n" ∷
    ascii "op=bf\ncode=0\nmaxiters=1\nframe=00\n" ∷
    ascii "code=0\nop=bf\nmaxiters=01\n" ∷
    [])
    ≡ true
unfolding value_of number_from hex_text unhex cut parse
others_refused = refl

-- a text that is too long, whatever stands in it
pub long_refused : (s : List ℕ) → longest < length s → parse s ≡ malformed
unfolding parse
long_refused s h = rw (lt-leb (length s) longest h)

-- "A refusal prints its number, `success=0`, `iters=0`, `output=`."
pub refusal_printed : (n : ℕ) → printed n false 0 [] ≡ ascii "answer=" ++ decimal n ++ ascii "\nsuccess=0\niters=0\noutput=\n"
unfolding hex
refusal_printed n =
    let head = ascii "answer=" ++ decimal n in
    rw (decimal_digit 0 (omega arith))
    (lines_nested (head ++ newline ∷ []) (line (ascii "success=") (glyph 0 ∷ [])) (line (ascii "iters=") (glyph 0 ∷ [])) (line (ascii "output=") [])
    ∙ append_assoc head (newline ∷ []) _)
