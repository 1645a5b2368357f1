-- What an accepted text asks for, and the bytes of its frame. Assumes nothing.
use Rattle.std.proofs.Common.{◌≡◌, ℕ, ◌+◌, ◌-◌, ◌/◌, ◌≤◌, ◌<◌, List, [], ◌∷◌, ◌++◌, Option, Some, None, length, take, drop, replicate, refl, sym, ap, ◌∙◌, append_assoc, length-append, le-leb, arith}
use Rattle.std.specs.Prelude.{IfSome}
use Rattle.std.specs.Option.{option_map}
use Rattle.std.proofs.lemmas.List.{length-replicate}
use lib.Seq.{take_at, drop-append_seam, take-append_seam}
use Rattle.maths.proofs.Stores.{sets_replicate}
use Rattle.sheet_values.specs.declared.Op.{Op}
use Rattle.sheet_values.specs.declared.Op.TheVariants.{Encode, Bf, Ms}
use Rattle.sheet_values.specs.Spelling.{ascii, glyph, decimal, hex, name_of}
use Rattle.sheet_values.specs.Values.{unhexed}
use Rattle.sheet_values.proofs.Decimals.{decimal_long}
use Rattle.sheet_values.proofs.Hex.{hex_length, hex_read, unhex_hex}
use Rattle.sheet_text.specs.declared.read.Request.{Request}
use Rattle.sheet_text.specs.Text.{newline, line, Spells}
use Rattle.sheet_text.specs.Reading.{Sheet, malformed, sheet, parse, asked, read_of}
use Rattle.sheet_text.proofs.Digits.{line_length}
use Rattle.sheet_text.proofs.BothWays.{accepted}

-- what is asked for is what the text spells
pub record Asked (s : List ℕ) (q : Request) : Type 0 where
  pub frame : List ℕ
  pub parsed : parse s ≡ sheet q.code q.op q.limit frame
  pub shown : q.frame.now ≡ hex frame
  pub spelled : Spells s q.code q.op q.limit frame

pub asks : (s : List ℕ) (q : Request) → asked (Some q) ≡ read_of s → Asked s q
asks s q e = go (parse s) refl e
  where
    shows : Sheet → Sheet
    shows p = record { code = p.code; op = p.op; limit = p.limit; frame = hex p.frame }

    go : (r : Option Sheet) → parse s ≡ r → asked (Some q) ≡ option_map shows r → Asked s q
    go None p e = absurd (let z : ◌≡◌ {A = ℕ} 0 1 = cc in omega arith)
    go (Some x) p e =
        let f : ◌≡◌ {A = Sheet} (record { code = q.code; op = q.op; limit = q.limit; frame = q.frame.now }) (shows x) = cc in
        let t : parse s ≡ sheet q.code q.op q.limit x.frame =
        p ∙ ap (λ (y : Sheet). sheet y.code y.op y.limit x.frame) (sym f) in
        record { frame = x.frame; parsed = t; shown = ap (λ (y : Sheet). y.frame) f; spelled = accepted _ _ _ _ s t }

-- ---- where the frame stands: before the newline at the end
module _ (front v : List ℕ) (b : ℕ) {s : List ℕ} (e : s ≡ front ++ (v ++ b ∷ [])) where
  end_length : length s ≡ length front + length v + 1
  end_length = omega (arith, ap length e, length-append front (v ++ b ∷ []), length-append v (b ∷ []))

  before_end : v ≡ take (length v) (drop (length s - 1 - length v) s)
  before_end =
      let n : length s - 1 - length v ≡ length front = omega (arith, end_length) in
      sym (rw (n, e, drop-append_seam front (v ++ b ∷ [])) (take-append_seam v (b ∷ [])))

last_line : (front key v : List ℕ) → front ++ line key v ≡ (front ++ key) ++ (v ++ newline ∷ [])
last_line front key v = simp append_assoc

-- what stands before a sheet's frame
abbrev before_frame : Request → List ℕ
before_frame q = line (ascii "code=") (glyph q.code ∷ []) ++ line (ascii "op=") (name_of q.op) ++ line (ascii "maxiters=") (decimal q.limit) ++ ascii "frame="

frame_last : (s : List ℕ) (q : Request) (a : Asked s q) → s ≡ before_frame q ++ (hex a.frame ++ newline ∷ [])
frame_last s q a =
    a.spelled.spelled
    ∙ last_line (line (ascii "code=") (glyph q.code ∷ []) ++ line (ascii "op=") (name_of q.op) ++ line (ascii "maxiters=") (decimal q.limit)) (ascii "frame=") (hex a.frame)

pub frame_placed : (s : List ℕ) (r : Option Request) → asked r ≡ read_of s
    → IfSome r (λ q. q.frame.now ≡ take (length q.frame.now) (drop (length s - 1 - length q.frame.now) s))
frame_placed s None e = tt
frame_placed s (Some q) e = let a = asks s q e in rw a.shown (before_end (before_frame q) (hex a.frame) newline (frame_last s q a))

pub frame_inside : (s : List ℕ) (r : Option Request) → asked r ≡ read_of s → IfSome r (λ q. length q.frame.now < length s)
frame_inside s None e = tt
frame_inside s (Some q) e = let a = asks s q e in rw a.shown (omega (arith, end_length (before_frame q) (hex a.frame) newline (frame_last s q a)))

-- a text that asks for nothing is malformed
pub asks_nothing : (s : List ℕ) → asked None ≡ read_of s → parse s ≡ malformed
asks_nothing s e = go (parse s) e
  where
    go : (r : Option Sheet) → asked None ≡ option_map (λ p. record { code = p.code; op = p.op; limit = p.limit; frame = hex p.frame }) r → r ≡ malformed
    go None e = refl
    go (Some x) e = absurd (let z : ◌≡◌ {A = ℕ} 0 1 = cc in omega arith)

-- ---- a frame has at most 4,080 bytes
name_length : (op : Op) → 6 ≤ length (line (ascii "op=") (name_of op))
name_length Encode = omega arith
name_length Bf = omega arith
name_length Ms = omega arith

lengths : (a b c d : List ℕ) → length (a ++ b ++ c ++ d) ≡ length a + length b + length c + length d
lengths a b c d = simp length-append

short : (s : List ℕ) (code : ℕ) (op : Op) (limit : ℕ) (frame : List ℕ) → Spells s code op limit frame → length frame ≤ 4080
short s code op limit frame w =
    omega (
      arith,
      w.short,
      ap length w.spelled,
      lengths (line (ascii "code=") (glyph code ∷ [])) (line (ascii "op=") (name_of op)) (line (ascii "maxiters=") (decimal limit)) (line (ascii "frame=") (hex frame)),
      name_length op,
      line_length (ascii "maxiters=") (decimal limit),
      decimal_long limit,
      line_length (ascii "frame=") (hex frame),
      hex_length frame,
    )

-- ---- the bytes of the frame, read from the text into a buffer of zeros
module _ (s : List ℕ) (q : Request) (a : Asked s q) {buffer : List ℕ} (e : buffer ≡ unhexed q.frame.now (replicate 4080 0)) where
  buffer_is : buffer ≡ a.frame ++ replicate (4080 - length a.frame) 0
  buffer_is =
      let low = short s _ _ _ a.frame a.spelled in
      let few : length (hex a.frame) / 2 ≤ length (replicate {A = ℕ} 4080 0) = omega (arith, hex_length a.frame, length-replicate {A = ℕ} 4080 0) in
      e ∙ rw (a.shown, hex_read a.frame a.spelled.bytes, le-leb _ _ few, unhex_hex a.frame a.spelled.bytes) (sets_replicate a.frame 4080 0 low)

  half : length q.frame.now / 2 ≡ length a.frame
  half = omega (arith, ap length a.shown, hex_length a.frame)

  pub frame_fits : length q.frame.now / 2 ≤ length buffer
  frame_fits = rw (buffer_is, half, length-append a.frame (replicate (4080 - length a.frame) 0)) (omega arith)

  pub frame_there : take (length q.frame.now / 2) buffer ≡ a.frame
  frame_there = rw (buffer_is, half) (take_at a.frame (replicate (4080 - length a.frame) 0) (length a.frame) refl)
