-- Reading finds exactly the well-formed sheets: what is accepted is spelled so, and nothing that is spelled so is refused. Assumes nothing.
use Rattle.std.proofs.Common.{◌≡◌, ◌↔◌, ℕ, ◌≤◌, true, ◌&&◌, ◌==◌, nat_le, cond, List, [], ◌∷◌, ◌++◌, Option, Some, None, length, refl, sym, ap, subst, ◌∙◌, append-nil, append_assoc, le-leb, arith}
use Rattle.std.specs.Option.{option_map}
use Rattle.std.proofs.lemmas.Bool.Decides.{nat_tests}
use Rattle.maths.specs.Bytes.{Bytes}
use Rattle.sheet_values.specs.declared.Op.{Op}
use Rattle.sheet_values.specs.Spelling.{ascii, glyph, decimal, hex, name_of}
use Rattle.sheet_values.specs.Values.{digit_of, number_of, op_of, hex_text, unhex}
use Rattle.sheet_values.proofs.Glyphs.{digit_spelled, digit_read}
use Rattle.sheet_values.proofs.Words.{op_spelled, op_read}
use Rattle.sheet_values.proofs.Decimals.{number_spelled, number_read}
use Rattle.sheet_values.proofs.Hex.{hex_spelled, hex_read, unhex_hex}
use Rattle.sheet_text.specs.Text.{line, spell, longest, Spells}
use Rattle.sheet_text.specs.Reading.{Sheet, malformed, sheet, cut, parse, read_of, text_number}
use Rattle.sheet_text.proofs.Plain.{digit_plain, name_plain, decimal_plain, hex_plain}
use Rattle.sheet_text.proofs.Lines.{step, taken, passed, cut_spelled, cut_read}

-- four lines that were cut off, one after another
four : (s : List ℕ) (c o l f : List ℕ × List ℕ) → cut (ascii "code=") s ≡ Some c → cut (ascii "op=") c.1 ≡ Some o → cut (ascii "maxiters=") o.1 ≡ Some l
    → cut (ascii "frame=") l.1 ≡ Some f → f.1 ≡ []
    → s ≡ line (ascii "code=") c.0 ++ (line (ascii "op=") o.0 ++ (line (ascii "maxiters=") l.0 ++ (line (ascii "frame=") f.0 ++ [])))
four s c o l f ec eo el ef e =
    cut_spelled _ s c.0 c.1 ec
    ∙ ap (λ (t : List ℕ). line (ascii "code=") c.0 ++ t)
    (cut_spelled _ c.1 o.0 o.1 eo
    ∙ ap (λ (t : List ℕ). line (ascii "op=") o.0 ++ t)
    (cut_spelled _ o.1 l.0 l.1 el
    ∙ ap (λ (t : List ℕ). line (ascii "maxiters=") l.0 ++ t)
    (cut_spelled _ l.1 f.0 f.1 ef ∙ ap (λ (t : List ℕ). line (ascii "frame=") f.0 ++ t) e)))

module _ (code : ℕ) (op : Op) (limit : ℕ) (frame : List ℕ) where
  pub nested : spell code op limit frame
      ≡ line (ascii "code=") (glyph code ∷ [])
      ++ (line (ascii "op=") (name_of op) ++ (line (ascii "maxiters=") (decimal limit) ++ (line (ascii "frame=") (hex frame) ++ [])))
  nested =
      regroup (line (ascii "code=") (glyph code ∷ [])) (line (ascii "op=") (name_of op)) (line (ascii "maxiters=") (decimal limit))
      (line (ascii "frame=") (hex frame))
    where
      regroup : (a b c d : List ℕ) → a ++ b ++ c ++ d ≡ a ++ (b ++ (c ++ (d ++ [])))
      regroup a b c d = rw (append-nil d) (simp append_assoc)

  -- the values of the four lines, and what they say
  record Values (s c o l f : List ℕ) : Type 0 where
    text : s ≡ line (ascii "code=") c ++ (line (ascii "op=") o ++ (line (ascii "maxiters=") l ++ (line (ascii "frame=") f ++ [])))
    code_is : digit_of c ≡ Some code
    op_is : op_of o ≡ Some op
    limit_is : number_of l ≡ Some limit
    hex_is : hex_text f ≡ true
    frame_is : unhex f ≡ frame

  -- the last test: hex digits, and nothing after them
  last : (c l : ℕ) (o : Op) (f rest : List ℕ) → cond (hex_text f && length rest == 0) (sheet c o l (unhex f)) malformed ≡ sheet code op limit frame
      → (hex_text f ≡ true) × ((rest ≡ []) × ((c ≡ code) × ((o ≡ op) × ((l ≡ limit) × (unhex f ≡ frame)))))
  last c l o f rest e =
      let p = passed (hex_text f && length rest == 0) (sheet c o l (unhex f)) e in
      let q : ◌≡◌ {A = Sheet} (record { code = c; op = o; limit = l; frame = unhex f }) (record { code = code; op = op; limit = limit; frame = frame }) =
      let q = p.1 in cc in
      let r : hex_text f ≡ true = let t = p.0 in grind (arith, nat_tests) in
      let n : length rest ≡ 0 = let t = p.0 in grind (arith, nat_tests) in
      (r, (none rest n, (ap (λ (x : Sheet). x.code) q, (ap (λ (x : Sheet). x.op) q, (ap (λ (x : Sheet). x.limit) q, ap (λ (x : Sheet). x.frame) q)))))
    where
      none : (rest : List ℕ) → length rest ≡ 0 → rest ≡ []
      none [] e = refl
      none (b ∷ rest) e = absurd (omega arith)

  spells : (s c o l f : List ℕ) → length s ≤ longest → Values s c o l f → Spells s code op limit frame
  spells s c o l f short v =
      let d = digit_spelled c code v.code_is in
      let n = number_spelled l limit v.limit_is in
      let h = hex_spelled f v.hex_is in
      record {
        spelled = v.text ∙ rw (d.0, op_spelled o op v.op_is, n.is, h.0, v.frame_is) (sym nested);
        one_digit = d.1;
        limited = n.low;
        bytes = subst Bytes v.frame_is h.1;
        short = short;
      }

  -- what is accepted is well-formed
  pub accepted : (s : List ℕ) → parse s ≡ sheet code op limit frame → Spells s code op limit frame
  unfolding parse
  accepted s e =
      let t = passed (nat_le (length s) longest) _ e in
      let c = taken _ (cut (ascii "code=") s) t.1 in
      let o = taken _ (cut (ascii "op=") c.0.1) c.1.1 in
      let l = taken _ (cut (ascii "maxiters=") o.0.1) o.1.1 in
      let f = taken _ (cut (ascii "frame=") l.0.1) l.1.1 in
      let cn = taken _ (digit_of c.0.0) f.1.1 in
      let on = taken _ (op_of o.0.0) cn.1.1 in
      let ln = taken _ (number_of l.0.0) on.1.1 in
      let q = last cn.0 ln.0 on.0 f.0.0 f.0.1 ln.1.1 in
      let short : length s ≤ longest = let b = t.0 in grind (arith, nat_tests) in
      spells s c.0.0 o.0.0 l.0.0 f.0.0 short (record {
        text = four s c.0 o.0 l.0 f.0 c.1.0 o.1.0 l.1.0 f.1.0 q.1.0;
        code_is = cn.1.0 ∙ ap Some q.1.1.0;
        op_is = on.1.0 ∙ ap Some q.1.1.1.0;
        limit_is = ln.1.0 ∙ ap Some q.1.1.1.1.0;
        hex_is = q.0;
        frame_is = q.1.1.1.1.1;
      })

  -- nothing that is well-formed is refused
  pub none_refused : (s : List ℕ) → Spells s code op limit frame → parse s ≡ sheet code op limit frame
  unfolding parse
  none_refused s w =
      rw (le-leb (length s) longest w.short, w.spelled, nested)
      (step _ _ (cut_read (ascii "code=") (glyph code ∷ []) _ (digit_plain code w.one_digit))
      (step _ _ (cut_read (ascii "op=") (name_of op) _ (name_plain op))
      (step _ _ (cut_read (ascii "maxiters=") (decimal limit) _ (decimal_plain limit))
      (step _ _ (cut_read (ascii "frame=") (hex frame) [] (hex_plain frame w.bytes))
      (step _ _ (digit_read code w.one_digit)
      (step _ _ (op_read op)
      (step _ _ (number_read limit w.limited)
      (rw (hex_read frame w.bytes, unhex_hex frame w.bytes)))))))))

  -- both ways at once
  pub exactly : (s : List ℕ) → (parse s ≡ sheet code op limit frame) ↔ Spells s code op limit frame
  exactly s = (accepted s, none_refused s)

-- a text spells at most one sheet
pub spells_one : (s : List ℕ) (c d : ℕ) (o p : Op) (m n : ℕ) (f g : List ℕ) → Spells s c o m f → Spells s d p n g → sheet c o m f ≡ sheet d p n g
spells_one s c d o p m n f g v w = sym (none_refused c o m f s v) ∙ none_refused d p n g s w

-- "Anything else, an odd number of hex digits included, is 9"
pub else_nine : (s : List ℕ) → ((code : ℕ) (op : Op) (limit : ℕ) (frame : List ℕ) → Spells s code op limit frame → ⊥) → text_number (read_of s) ≡ 9
else_nine s none = go (parse s) refl
  where
    go : (r : Option Sheet) → parse s ≡ r → text_number (option_map (λ q. record { code = q.code; op = q.op; limit = q.limit; frame = hex q.frame }) r) ≡ 9
    go None e = refl
    go (Some q) e = absurd (none q.code q.op q.limit q.frame (accepted q.code q.op q.limit q.frame s e))
