-- A list that is copied over the front of another. Assumes nothing.
use mathlib.Core.List.{List, [], ◌∷◌, ◌++◌, append_assoc, append-nil}
use mathlib.Core.Path.{◌≡◌, refl, ◌∙◌}
use Prim.Native.Nat.{ℕ, suc, ◌+◌, ◌≤◌, ◌<◌}
use native.Mathlib.Numerals.{add-one}
use native.Mathlib.Omega.{arith}
use lib.ListN.{length, get_or, take, drop, set, length-set, drop_of_length-le}
use lib.Seq.{length-take-le, take-suc, take-length, drop-cons, set_at}

-- the first i elements of m have been copied over those of s
pub record Copied {A : Type 0} (m s : List A) (i : ℕ) (t : List A) : Type 0 where
  pub low : i ≤ length m
  pub long : length t ≡ length s
  pub is : t ≡ take i m ++ drop i s

module _ {A : Type 0} (d : A) (m s : List A) (fit : length m ≤ length s) where
  pub copied_none : Copied m s 0 s
  copied_none = record { low = omega arith; long = refl; is = refl }

  pub copied_more : {i : ℕ} {t : List A} {x : A} → Copied m s i t → i < length m → x ≡ get_or m i d → Copied m s (i + 1) (set t i x)
  copied_more {i} {t} c h e =
      let l : length (take i m) ≡ i = length-take-le i m (omega arith) in
      record {
        low = omega arith;
        long = length-set t i _ ∙ c.long;
        is = rw (e, c.is, add-one i, drop-cons s i d (omega arith), take-suc m i d h, append_assoc (take i m) (get_or m i d ∷ []) (drop (suc i) s))
            (set_at (take i m) (get_or s i d) (drop (suc i) s) (get_or m i d) i l);
      }

  pub copied_all : {i : ℕ} {t : List A} → Copied m s i t → length m ≤ i → t ≡ m ++ drop (length m) s
  copied_all {i} c h =
      let e : i ≡ length m = omega (arith, c.low) in
      c.is ∙ rw (e, take-length m)

-- over the whole of it
pub copied_whole : {A : Type 0} (m s : List A) {t : List A} → length s ≡ length m → t ≡ m ++ drop (length m) s → t ≡ m
copied_whole m s e is =
    let none : drop (length m) s ≡ [] = drop_of_length-le s (omega (arith, e)) in
    is ∙ rw none (append-nil m)
