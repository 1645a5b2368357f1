-- A word at the front of a text, and the names of the operations: what is read was spelled, and what is spelled is read. Assumes nothing.
use Rattle.std.proofs.Common.{◌≡◌, ℕ, Bool, true, false, List, ◌++◌, Some, None, cond, length, take, drop, take-append-drop, refl, sym, ap, ◌∙◌, arith}
use Rattle.std.specs.Str.{bytes_eq}
use Rattle.std.proofs.lemmas.Bool.Decides.{same_from_decides}
use lib.Seq.{take-append_seam}
use Rattle.std.proofs.lemmas.Slice.Eq.{bytes_eq-Decides}
use Rattle.sheet_values.specs.declared.Op.{Op}
use Rattle.sheet_values.specs.declared.Op.TheVariants.{Encode, Bf, Ms}
use Rattle.sheet_values.specs.Spelling.{ascii, name_of}
use Rattle.sheet_values.specs.Values.{begins, op_of}

-- ---- a word at the front
pub begins_word : (w s : List ℕ) → begins w s ≡ true → s ≡ w ++ drop (length w) s
begins_word w s e = sym (take-append-drop (length w) s) ∙ ap (λ (l : List ℕ). l ++ drop (length w) s) ((bytes_eq-Decides (take (length w) s) w).0 e)

pub word_begins : (w s : List ℕ) → begins w (w ++ s) ≡ true
word_begins w s = (bytes_eq-Decides (take (length w) (w ++ s)) w).1 (take-append_seam w s)

-- as the library compares: the word with the front
pub begins_is : (w s : List ℕ) → bytes_eq w (take (length w) s) ≡ begins w s
begins_is w s =
    let d = bytes_eq-Decides (take (length w) s) w in
    same_from_decides _ _ (bytes_eq-Decides w (take (length w) s)) (λ h. sym (d.0 h), λ e. d.1 (sym e))

-- ---- the operation's name
pub op_spelled : (v : List ℕ) (op : Op) → op_of v ≡ Some op → v ≡ name_of op
op_spelled v op e = go (bytes_eq v (ascii "encode")) refl (bytes_eq v (ascii "bf")) refl (bytes_eq v (ascii "ms")) refl e
  where
    same : (w : List ℕ) → bytes_eq v w ≡ true → v ≡ w
    same w p = (bytes_eq-Decides v w).0 p

    go : (x : Bool) → bytes_eq v (ascii "encode") ≡ x → (y : Bool) → bytes_eq v (ascii "bf") ≡ y → (z : Bool) → bytes_eq v (ascii "ms") ≡ z
        → cond x (Some Encode) (cond y (Some Bf) (cond z (Some Ms) None)) ≡ Some op → v ≡ name_of op
    go true p y q z r e = same _ p ∙ ap name_of (let o : Encode ≡ op = cc in o)
    go false p true q z r e = same _ q ∙ ap name_of (let o : Bf ≡ op = cc in o)
    go false p false q true r e = same _ r ∙ ap name_of (let o : Ms ≡ op = cc in o)
    go false p false q false r e = absurd (let z : ◌≡◌ {A = ℕ} 0 1 = cc in omega arith)

pub op_read : (op : Op) → op_of (name_of op) ≡ Some op
op_read Encode = refl
op_read Bf = refl
op_read Ms = refl
