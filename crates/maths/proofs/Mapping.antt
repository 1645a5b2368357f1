-- A loop that puts f of each element in its place, from the first on: what holds at a turn, and at its end, for `search maps`. Assumes nothing.
use mathlib.Core.List.{List, [], ◌∷◌, map}
use mathlib.Core.Path.{◌≡◌, refl, ap, ◌∙◌}
use Prim.Native.Nat.{ℕ, zero, suc, ◌+◌, ◌≤◌, ◌<◌}
use native.Mathlib.Omega.{arith}
use borrow.Author.Rules.{rules}
use lib.ListN.{length, get_or, set, replicate}
use Rattle.maths.proofs.Slices.{overwrite_next, span_map}
use Rattle.maths.proofs.Writing.{Written, written_none, written_more, written_all}

-- the first i elements are f of what they were, the others are as they were; d stands past the end
pub record Mapped {A : Type 0} (d : A) (f : A → A) (l₀ : List A) (i : ℕ) (l : List A) : Type 0 where
  pub written : Written (λ k. f (get_or l₀ k d)) l₀ i l

module _ {A : Type 0} {d : A} {f : A → A} {l₀ : List A} where
  pub mapped_none : Mapped d f l₀ 0 l₀
  mapped_none = record { written = written_none }

  module _ {i n : ℕ} {l : List A} (m : Mapped d f l₀ i l) where
    -- n is how many there are
    pub mapped_more : {v : A} → i < n → n ≡ length l₀ → v ≡ f (get_or l i d) → Mapped d f l₀ (i + 1) (set l i v)
    mapped_more h e t =
        let k : i < length l₀ = omega arith in
        record { written = written_more m.written h e (t ∙ rw (m.written.front, overwrite_next (λ k. f (get_or l₀ k d)) l₀ d i k)) }

    pub mapped_all : n ≤ i → n ≡ length l₀ → l ≡ map f l₀
    mapped_all h e = written_all m.written h e ∙ span_map d f l₀

pub ruleset maps = (mapped_none, mapped_more, mapped_all, rules)

-- each element changed, after a store and of a repeated one
module _ {A B : Type 0} (f : A → B) where
  pub map_set : (w : List A) (i : ℕ) (x : A) → map f (set w i x) ≡ set (map f w) i (f x)
  map_set [] i x = refl
  map_set (y ∷ w) zero x = refl
  map_set (y ∷ w) (suc i) x = ap (λ (l : List B). f y ∷ l) (map_set w i x)

  pub map_replicate : (n : ℕ) (x : A) → map f (replicate n x) ≡ replicate n (f x)
  map_replicate zero x = refl
  map_replicate (suc n) x = ap (λ (l : List B). f x ∷ l) (map_replicate n x)
