-- What min-sum makes of confidences of one magnitude. Assumes nothing.
use mathlib.Core.Bool.{Bool, true, false, not}
use mathlib.Core.Path.{◌≡◌, refl, ap, ◌∙◌}
use Prim.Native.Nat.{ℕ, zero, suc, ◌≤◌}
use native.Mathlib.Omega.{arith}
use borrow.Author.Tests.{ltb-false, le-ltb}
use lib.Dec.{ltb}
use lib.IntN.{ℤ, pos, negsuc, +ℤ_idr}
use Rattle.maths.specs.Tests.{pick}
use Rattle.maths.proofs.Tests.{pick_same}
use Rattle.min_sum.specs.Soft.{clamp, add, subtract, negate, magnitude, hard, same, less}
use Rattle.min_sum.specs.Confidence.{whole}
use Rattle.min_sum.specs.MinSum.{new_u, new_v, new_first, new_second}
use Rattle.soft_flip.specs.OneSize.{level}

pub level_hard : (k : ℕ) (b : Bool) → hard (level k b) ≡ b
unfolding hard
level_hard k true = refl
level_hard k false = refl

module _ (top k : ℕ) (fits : suc k ≤ top) where
  clamp_level : (b : Bool) → clamp top (level k b) ≡ level k b
  unfolding clamp
  clamp_level true = ap negsuc (omega arith)
  clamp_level false = ap pos (omega arith)

  pub level_add : (b : Bool) → add top (level k b) (pos 0) ≡ level k b
  unfolding add
  level_add b = ap (clamp top) (+ℤ_idr (level k b)) ∙ clamp_level b

  pub zero-add : add top (pos 0) (pos 0) ≡ pos 0
  unfolding add clamp
  zero-add = ap pos (omega arith)

  level_sub : (b : Bool) → subtract top (level k b) (pos 0) ≡ level k b
  unfolding subtract
  level_sub b = ap (clamp top) (+ℤ_idr (level k b)) ∙ clamp_level b

  pub level_size : (b : Bool) → magnitude top (level k b) ≡ pos (suc k)
  unfolding magnitude
  level_size true = ap pos (omega arith)
  level_size false = refl

  -- pass 0: no message yet
  pub first_v : (b : Bool) → new_v (whole top) (level k b) (pos 0) (pos 0) ≡ level k b
  unfolding hard same
  first_v true = rw (level_sub true)
  first_v false = rw (level_sub false)

  -- pass 1: both minima are the magnitude
  negate_level : (b : Bool) → negate top (level k b) ≡ level k (not b)
  unfolding negate
  negate_level true = clamp_level false
  negate_level false = clamp_level true

  pub second_u : (b negative : Bool) → new_u (whole top) (level k b) (pos (suc k)) (pos (suc k)) negative ≡ level k (pick negative (not b) b)
  unfolding hard
  second_u true true = rw (pick_same (same (magnitude top (level k true)) (pos (suc k))) (pos (suc k)), negate_level false, negate_level true)
  second_u true false = rw (pick_same (same (magnitude top (level k true)) (pos (suc k))) (pos (suc k)), negate_level false)
  second_u false true = rw (pick_same (same (magnitude top (level k false)) (pos (suc k))) (pos (suc k)), negate_level false)
  second_u false false = rw (pick_same (same (magnitude top (level k false)) (pos (suc k))) (pos (suc k)))

  -- the minima after so many edges
  abbrev pub first_minimum : ℕ → ℤ
  first_minimum zero = pos top
  first_minimum (suc c) = pos (suc k)

  abbrev pub second_minimum : ℕ → ℤ
  second_minimum zero = pos top
  second_minimum (suc zero) = pos top
  second_minimum (suc (suc c)) = pos (suc k)

  not_less : ltb (suc k) (suc k) ≡ false
  not_less = le-ltb (suc k) (suc k) (omega arith)

  by_less : (t : Bool) → ltb (suc k) top ≡ t → pick t (pos (suc k)) (pos top) ≡ pos (suc k)
  by_less true e = refl
  by_less false e = ap pos (omega (arith, ltb-false (suc k) top e))

  pub first_step : (c : ℕ) → new_first (whole top) (pos (suc k)) (first_minimum c) ≡ first_minimum (suc c)
  unfolding less
  first_step zero = by_less (ltb (suc k) top) refl
  first_step (suc c) = pick_same (ltb (suc k) (suc k)) (pos (suc k))

  pub second_step : (c : ℕ) → new_second (whole top) (pos (suc k)) (first_minimum c) (second_minimum c) ≡ second_minimum (suc c)
  unfolding less
  second_step zero = go (ltb (suc k) top)
    where
      go : (t : Bool) → pick t (pos top) (pick t (pos (suc k)) (pos top)) ≡ pos top
      go true = refl
      go false = refl
  second_step (suc zero) = rw not_less (by_less (ltb (suc k) top) refl)
  second_step (suc (suc c)) = rw not_less
