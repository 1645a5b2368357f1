-- Behind the text of an answer stand zeros, and still do after more is written. Assumes nothing.
use Rattle.std.proofs.Common.{◌≡◌, ℕ, ◌+◌, ◌-◌, ◌≤◌, ◌<◌, List, length, take, drop, set, length-append, length-drop, length-set, sym, ap, ◌∙◌, arith}
use Rattle.std.proofs.lemmas.List.{drop-replicate, drop-set-lt}
use Rattle.std.proofs.lemmas.Slice.{drop-put_mid}
use borrow.Rule.Slice.PartMut.{put_mid}
use lib.Seq.{drop-drop}
use Rattle.sheet_text.specs.Printing.{room, Zeroed, text_length}

module _ (len : ℕ) (bytes : List ℕ) (z : Zeroed len bytes) where
  -- behind what is written the zeros go on
  more_written : (k : ℕ) (new : List ℕ) → len + k ≤ room → length new ≡ length bytes → drop (len + k) new ≡ drop (len + k) bytes → Zeroed (len + k) new
  more_written k new h n e =
      let f : room - len - k ≡ room - (len + k) = omega arith in
      record {
        low = h;
        long = n ∙ z.long;
        behind = e ∙ sym (drop-drop k len bytes) ∙ rw (z.behind, drop-replicate {X = ℕ} k (room - len) 0, f);
      }

  -- a digit behind the text, which is shown so
  pub digit_written : (d : ℕ) (text : List ℕ) → take len bytes ≡ text → length text < room → Zeroed (len + 1) (set bytes len d)
  digit_written d text e h =
      let l : len + 1 ≤ room = omega (arith, ap length e, text_length len bytes z) in
      more_written 1 (set bytes len d) l (length-set bytes len d) (drop-set-lt (len + 1) bytes len d (omega arith))

  -- a word
  pub word_written : (word new text : List ℕ) → take len bytes ≡ text → length text + length word ≤ room → new ≡ word
      → Zeroed (len + length word) (put_mid len (len + length word - len) bytes new)
  word_written word new text e h w =
      let l : len + length word ≤ room = omega (arith, ap length e, text_length len bytes z) in
      let k : ℕ = len + length word - len in
      let same : length new ≡ k = omega (arith, ap length w) in
      let long : length (put_mid len k bytes new) ≡ length (take len bytes) + (length new + length (drop k (drop len bytes))) =
      length-append (take len bytes) _ ∙ ap (λ (n : ℕ). length (take len bytes) + n) (length-append new (drop k (drop len bytes))) in
      let rest : length (drop k (drop len bytes)) ≡ length bytes - len - k = length-drop k (drop len bytes) ∙ ap (λ (n : ℕ). n - k) (length-drop len bytes) in
      more_written (length word) (put_mid len k bytes new) l (omega (arith, long, same, rest, text_length len bytes z, z.long))
      (drop-put_mid len k bytes new (len + length word) (omega arith) (omega (arith, z.low, z.long)) same)
