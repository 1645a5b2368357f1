-- Reading a text, line by line. That this finds exactly the well-formed sheets is a law, in proofs/. Assumes nothing.
use Rattle.std.specs.Prelude.{Bool, cond, ◌&&◌, ◌==◌, nat_le, List, [], ◌∷◌, ℕ, ◌+◌, length, take, drop, Option, Some, None, is_none}
use Rattle.std.specs.List.{position}
use Rattle.std.specs.Option.{option_and_then, option_map}
use Rattle.codes.specs.Answers.{test, first_of}
use Rattle.sheet_values.specs.declared.Op.{Op}
use Rattle.sheet_values.specs.Spelling.{ascii, hex}
use Rattle.sheet_values.specs.Values.{digit_of, number_of, begins, op_of, hex_text, unhex}
use Rattle.sheet_text.specs.declared.read.Request.{Request}
use Rattle.sheet_text.specs.Text.{is_newline, longest}

-- what a text asks for: an operation on a frame, or nothing, as it is malformed
pub record Sheet : Type 0 where
  pub code : ℕ
  pub op : Op
  pub limit : ℕ
  pub frame : List ℕ

abbrev pub sheet : ℕ → Op → ℕ → List ℕ → Option Sheet
sheet code op limit frame = Some (record { code = code; op = op; limit = limit; frame = frame })

abbrev pub malformed : Option Sheet
malformed = None

-- a line with the key at the front of the text: its value, and the text after it
unfoldable pub cut : List ℕ → List ℕ → Option (List ℕ × List ℕ)
cut key s =
    let t = drop (length key) s in
    cond (begins key s) (option_map (λ n. (take n t, drop (n + 1) t)) (position is_newline t)) None

infixl 10 ◌>>=◌
-- the next step, with what this one found
abbrev pub ◌>>=◌ : {A B : Type 0} → Option A → (A → Option B) → Option B
o >>= f = option_and_then f o

-- the four lines in order, then their values; nothing follows them
unfoldable pub parse : List ℕ → Option Sheet
parse s = cond (nat_le (length s) longest) (do
  code ← cut (ascii "code=") s
  op ← cut (ascii "op=") code.1
  limit ← cut (ascii "maxiters=") op.1
  frame ← cut (ascii "frame=") limit.1
  c ← digit_of code.0
  o ← op_of op.0
  l ← number_of limit.0
  cond (hex_text frame.0 && length frame.1 == 0) (sheet c o l (unhex frame.0)) malformed) malformed

-- the parts that are read, with the frame in hex
abbrev pub asked : Option Request → Option Sheet
asked r = option_map (λ q. record { code = q.code; op = q.op; limit = q.limit; frame = q.frame.now }) r

abbrev pub read_of : List ℕ → Option Sheet
read_of s = option_map (λ q. record { code = q.code; op = q.op; limit = q.limit; frame = hex q.frame }) (parse s)

-- the paper's number for each case of what is read: 9 is "only the bench sheet: its text is malformed", 0 is "accepted"
abbrev pub text_number : Option Sheet → ℕ
text_number None = 9
text_number (Some q) = 0

-- the number of a text: by one test, whether it is malformed
abbrev pub unread : Option Sheet → Bool
unread r = is_none r

abbrev pub read_answer : List ℕ → ℕ
read_answer s = first_of (test (unread (parse s)) 9 ∷ [])
