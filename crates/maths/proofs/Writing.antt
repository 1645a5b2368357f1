-- A loop that puts an element at each place of a list, from the first on: what holds at a turn, and at its end. The laws have the form in which a
-- function's proof needs them, so that `search writes` finds them. Assumes nothing.
use mathlib.Core.List.{List}
use mathlib.Core.Path.{◌≡◌, refl, ◌∙◌}
use Prim.Native.Nat.{ℕ, ◌+◌, ◌≤◌, ◌<◌}
use native.Mathlib.Omega.{arith}
use borrow.Author.Rules.{rules}
use lib.ListN.{length, set, replicate, length-set}
use Rattle.maths.specs.Lists.{span, overwrite}
use Rattle.maths.proofs.Slices.{overwrite_none, overwrite_more, overwrite_all, span_one}

-- element k of the first i is f k, the others are as they were
pub record Written {A : Type 0} (f : ℕ → A) (w₀ : List A) (i : ℕ) (w : List A) : Type 0 where
  pub low : i ≤ length w₀
  pub long : length w ≡ length w₀
  pub front : w ≡ overwrite f i w₀

module _ {A : Type 0} {f : ℕ → A} {w₀ : List A} where
  pub written_none : Written f w₀ 0 w₀
  written_none = record { low = omega arith; long = refl; front = overwrite_none f w₀ }

  module _ {i n : ℕ} {w : List A} (r : Written f w₀ i w) where
    -- n is how many are written
    module _ (h : i < n) (e : n ≡ length w₀) where
      pub written_more : {x : A} → x ≡ f i → Written f w₀ (i + 1) (set w i x)
      written_more {x} t = record { low = omega arith; long = length-set w i x ∙ r.long; front = overwrite_more f w₀ i r.front (omega arith) t }

      pub written_in : i < length w
      written_in = omega (arith, r.long)

    pub written_all : n ≤ i → n ≡ length w₀ → w ≡ span f 0 (length w₀)
    written_all h e = overwrite_all f w₀ i r.front r.low (omega arith)

-- one element everywhere
pub filled : {A : Type 0} {x y : A} {w₀ w : List A} {i n : ℕ} → Written (λ _. y) w₀ i w → n ≤ i → n ≡ length w₀ → y ≡ x → w ≡ replicate (length w₀) x
filled {x = x} {w₀ = w₀} r h e t = written_all r h e ∙ span_one _ 0 (length w₀) ∙ rw t

pub cleared : {w₀ w : List ℕ} {i n : ℕ} → Written (λ _. 0) w₀ i w → n ≤ i → n ≡ length w₀ → w ≡ replicate (length w₀) 0
cleared r h e = filled r h e refl

pub ruleset writes = (written_none, written_more, written_in, filled, cleared, rules)
