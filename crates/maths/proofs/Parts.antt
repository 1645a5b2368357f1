-- A part of a list, after a store inside or outside of it, and a list with another part. Assumes nothing.
use mathlib.Core.Bool.{true, false}
use mathlib.Core.Path.{◌≡◌}
use mathlib.Core.List.{List, [], append-nil}
use Prim.Native.Nat.{ℕ, ◌+◌, ◌-◌, ◌≤◌, ◌<◌}
use native.Mathlib.Omega.{arith}
use borrow.Rule.Slice.PartMut.{put_mid}
use borrow.Author.Tests.{le-leb}
use lib.Dec.{leb}
use lib.ListN.{length, get_or, set, drop, drop_of_length-le}
use lib.Seq.{get_or-take, get_or-drop, take-set-lt, take-set-le, drop-set-lt, drop-set-add, drop-drop}
use Rattle.maths.specs.Parts.{part, overlaid}

module _ {A : Type 0} where
  pub part_at : (a n : ℕ) (w : List A) (i : ℕ) (d : A) → i < n → get_or (part a n w) i d ≡ get_or w (a + i) d
  part_at a n w i d h = rw (get_or-take n (drop a w) i d, get_or-drop a w i d)

  -- a store at i
  module _ (a n : ℕ) (w : List A) (i : ℕ) (x : A) where
    pub part_set : (k : ℕ) → i ≡ a + k → k < n → part a n (set w i x) ≡ set (part a n w) k x
    part_set k e h = rw (e, drop-set-add a w k x, take-set-lt n (drop a w) k x)

    pub part_before : i < a → part a n (set w i x) ≡ part a n w
    part_before h = rw (drop-set-lt a w i x)

    pub part_after : a + n ≤ i → part a n (set w i x) ≡ part a n w
    part_after h =
        let e : i ≡ a + (i - a) = omega arith in
        let l : n ≤ i - a = omega arith in
        rw (e, drop-set-add a w (i - a) x, take-set-le n (drop a w) (i - a) x)

  -- n elements that were put in from a on, where there are so many; where there are not
  pub overlaid_mid : (a n : ℕ) (xs w : List A) → length xs ≡ n → leb (a + n) (length w) ≡ true → put_mid a (a + n - a) w xs ≡ overlaid a xs w
  unfolding overlaid
  overlaid_mid a n xs w e h =
      let k : a + n - a ≡ n = omega arith in
      rw (e, h, k, drop-drop n a w)

  pub overlaid_not : (a n : ℕ) (xs w : List A) → length xs ≡ n → leb (a + n) (length w) ≡ false → w ≡ overlaid a xs w
  unfolding overlaid
  overlaid_not a n xs w e h = rw (e, h)

  -- in place of the whole list
  pub overlaid_whole : (xs w : List A) → length w ≡ length xs → overlaid 0 xs w ≡ xs
  unfolding overlaid
  overlaid_whole xs w e =
      let room : leb (0 + length xs) (length w) ≡ true = le-leb (0 + length xs) (length w) (omega (arith, e)) in
      let none : drop (0 + length xs) w ≡ [] = drop_of_length-le w (omega (arith, e)) in
      rw (room, none, append-nil xs)
