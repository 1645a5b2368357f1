-- Lists that are written over: at one place, or by the elements of another from a place on. Assumes nothing.
use mathlib.Core.List.{List, [], ◌∷◌, ◌++◌}
use mathlib.Core.Path.{◌≡◌, ap, ◌∙◌}
use Prim.Native.Nat.{ℕ, zero, suc, ◌+◌, ◌-◌, ◌≤◌, ◌<◌}
use native.Mathlib.Nat.{add-zero, zero-add, sub-zero}
use native.Mathlib.Decide.{ℕ_discrete, dec_lt}
use native.Mathlib.Omega.{arith}
use lib.ListN.{length, get_or, set, drop, replicate, length-replicate}
use lib.Seq.{sets, sets-eq, get_or-set_same, get_or-set_other, set_out}

-- by an element of which P holds at its place: what held of each by its place holds still
pub set_each : {A : Type 0} (P : ℕ → A → Type 0) (xs : List A) (i : ℕ) (x d : A) → P i x → ((j : ℕ) → P j (get_or xs j d)) → (j : ℕ) → P j (get_or (set xs i x) j d)
set_each P xs i x d new old j = by (ℕ_discrete j i) (dec_lt i (length xs))
  where
    by : Dec (j ≡ i) → Dec (i < length xs) → P j (get_or (set xs i x) j d)
    by (yes p) (yes l) = rw (p, get_or-set_same xs i x d l) new
    by (yes p) (no l) = let h : length xs ≤ i = omega arith in rw (set_out xs i x h) (old j)
    by (no p) l = rw (get_or-set_other xs i j x d p) (old j)

module _ {A : Type 0} where
  -- by two lists, one after the other
  pub sets_append : (xs ys l : List A) (i j : ℕ) → j ≡ i + length xs → sets l i (xs ++ ys) ≡ sets (sets l i xs) j ys
  sets_append [] ys l i j e = rw (e, add-zero i)
  sets_append (x ∷ xs) ys l i j e = sets_append xs ys (set l i x) (suc i) j (omega arith)

  drop_replicate : (k n : ℕ) (x : A) → drop k (replicate n x) ≡ replicate (n - k) x
  drop_replicate zero n x = rw (sub-zero n)
  drop_replicate (suc k) zero x =
      let e : zero - suc k ≡ 0 = omega arith in
      rw e
  drop_replicate (suc k) (suc n) x =
      let e : suc n - suc k ≡ n - k = omega arith in
      rw e (drop_replicate k n x)

  -- the front of a list of one element
  pub sets_replicate : (xs : List A) (n : ℕ) (x : A) → length xs ≤ n → sets (replicate n x) 0 xs ≡ xs ++ replicate (n - length xs) x
  sets_replicate xs n x h =
      sets-eq xs (replicate n x) 0 (rw (length-replicate n x) (omega arith)) ∙ ap (λ (z : List A). xs ++ z) (drop_replicate (0 + length xs) n x ∙ rw (zero-add (length xs)))
