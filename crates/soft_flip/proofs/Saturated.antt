-- Saturating sums of confidences of one size: the hard bit is the one that nearly all of them have. Assumes nothing.
use mathlib.Core.Bool.{Bool, true, false, not, cond}
use mathlib.Core.List.{List, [], ◌∷◌, map}
use mathlib.Core.Path.{◌≡◌, refl, ap, ◌∙◌}
use Prim.Native.Nat.{ℕ, suc, ◌+◌, ◌-◌, min, ◌≤◌}
use native.Mathlib.Omega.{arith}
use borrow.Author.Tests.{ltb-true, ltb-false}
use lib.Dec.{ltb}
use lib.IntN.{ℤ, pos, negsuc, ◌+ℤ◌}
use lib.Signed.{mag}
use lib.ListN.{length}
use Rattle.maths.specs.Tests.{pick}
use Rattle.maths.specs.Sums.{sum_l}
use Rattle.min_sum.specs.Soft.{clamp, add, hard}
use Rattle.soft_flip.specs.OneSize.{level}

-- confidences added in order
unfoldable pub total : ℕ → ℕ → List Bool → ℤ → ℤ
total top k [] z = z
total top k (b ∷ bs) z = total top k bs (add top z (level k b))

-- how often a bit stands in a list
unfoldable times : Bool → List Bool → ℕ
times b [] = 0
times true (true ∷ bs) = suc (times true bs)
times true (false ∷ bs) = times true bs
times false (true ∷ bs) = times false bs
times false (false ∷ bs) = suc (times false bs)

module _ (top k : ℕ) (fits : suc k ≤ top) where
  -- a number as its distance from the lowest
  height : ℤ → ℕ
  height (pos n) = suc top + n
  height (negsuc n) = top - n

  step : Bool → ℕ → ℕ
  step true n = n - suc k
  step false n = min (n + suc k) (suc top + top)

  clamp_mag : (z : ℤ) → mag (clamp top z) ≤ top
  unfolding clamp
  clamp_mag (pos n) = omega arith
  clamp_mag (negsuc n) = omega arith

  add_height : (b : Bool) (z : ℤ) → mag z ≤ top → height (add top z (level k b)) ≡ step b (height z)
  unfolding clamp add height step
  add_height true (pos n) h = go (ltb n (suc k)) refl
    where
      go : (t : Bool) → ltb n (suc k) ≡ t → height (clamp top (cond t (negsuc (suc k - suc n)) (pos (n - suc k)))) ≡ (suc top + n) - suc k
      go true e = omega (arith, ltb-true n (suc k) e)
      go false e = omega (arith, ltb-false n (suc k) e)
  add_height true (negsuc n) h = omega arith
  add_height false (pos n) h = omega arith
  add_height false (negsuc n) h = go (ltb (suc k) (suc n)) refl
    where
      go : (t : Bool) → ltb (suc k) (suc n) ≡ t
          → height (clamp top (cond t (negsuc (suc n - suc (suc k))) (pos (suc k - suc n)))) ≡ min (top - n + suc k) (suc top + top)
      go true e = omega (arith, ltb-true (suc k) (suc n) e)
      go false e = omega (arith, ltb-false (suc k) (suc n) e)

  sums : List Bool → ℕ → ℕ
  sums [] n = n
  sums (b ∷ bs) n = sums bs (step b n)

  total_height : (bs : List Bool) (z : ℤ) → mag z ≤ top → height (total top k bs z) ≡ sums bs (height z)
  unfolding total sums add
  total_height [] z h = refl
  total_height (b ∷ bs) z h = total_height bs (add top z (level k b)) (clamp_mag (z +ℤ level k b)) ∙ ap (sums bs) (add_height b z h)

  -- no number below 0, and at most one
  up_none : (bs : List Bool) (n : ℕ) → times true bs ≡ 0 → suc top ≤ n → suc top ≤ sums bs n
  unfolding times sums step
  up_none [] n q h = h
  up_none (true ∷ bs) n q h = absurd (omega arith)
  up_none (false ∷ bs) n q h = up_none bs (min (n + suc k) (suc top + top)) q (omega arith)

  up_one : (bs : List Bool) (n : ℕ) → times true bs ≤ 1 → suc top + suc k ≤ n → suc top ≤ sums bs n
  unfolding times sums step
  up_one [] n q h = omega arith
  up_one (true ∷ bs) n q h = up_none bs (n - suc k) (omega arith) (omega arith)
  up_one (false ∷ bs) n q h = up_one bs (min (n + suc k) (suc top + top)) q (omega arith)

  -- no number above 0, and at most one
  down_none : (bs : List Bool) (n : ℕ) → times false bs ≡ 0 → n ≤ top + min (times true bs) 1 → sums bs n ≤ top
  unfolding times sums step
  down_none [] n q h = omega arith
  down_none (false ∷ bs) n q h = absurd (omega arith)
  down_none (true ∷ bs) n q h = down_none bs (n - suc k) q (omega arith)

  down_one : (bs : List Bool) (n : ℕ) → times false bs ≤ 1 → n + suc k ≤ top + min (times true bs) 1 → sums bs n ≤ top
  unfolding times sums step
  down_one [] n q h = omega arith
  down_one (true ∷ bs) n q h = down_one bs (n - suc k) q (omega arith)
  down_one (false ∷ bs) n q h = down_none bs (min (n + suc k) (suc top + top)) (omega arith) (omega arith)

  high : (z : ℤ) → suc top ≤ height z → hard z ≡ false
  unfolding height hard
  high (pos n) h = refl
  high (negsuc n) h = absurd (omega arith)

  low : (z : ℤ) → height z ≤ top → hard z ≡ true
  unfolding height hard
  low (pos n) h = absurd (omega arith)
  low (negsuc n) h = refl

  level_mag : (b : Bool) → mag (level k b) ≤ top
  level_mag true = omega arith
  level_mag false = omega arith

  -- a start that is right, and one that is wrong
  module _ (bs : List Bool) where
    kept_up : times true bs ≤ 1 → hard (total top k bs (pos (suc k))) ≡ false
    unfolding height
    kept_up q = high (total top k bs (pos (suc k))) (rw (total_height bs (pos (suc k)) (level_mag false)) (up_one bs (suc top + suc k) q (omega arith)))

    kept_down : times false bs ≤ 1 → 1 ≤ times true bs → hard (total top k bs (negsuc k)) ≡ true
    unfolding height
    kept_down q p = low (total top k bs (negsuc k)) (rw (total_height bs (negsuc k) (level_mag true)) (down_one bs (top - k) q (omega arith)))

  risen : (bs : List Bool) → times true bs ≡ 0 → 1 ≤ times false bs → hard (total top k bs (negsuc k)) ≡ false
  unfolding height sums step times
  risen [] q p = absurd (omega arith)
  risen (true ∷ bs) q p = absurd (omega arith)
  risen (false ∷ bs) q p =
      high (total top k (false ∷ bs) (negsuc k))
      (rw (total_height (false ∷ bs) (negsuc k) (level_mag true)) (up_none bs (min (top - k + suc k) (suc top + top)) q (omega arith)))

  fallen : (bs : List Bool) → times false bs ≡ 0 → 2 ≤ times true bs → hard (total top k bs (pos (suc k))) ≡ true
  unfolding height sums step times
  fallen [] q p = absurd (omega arith)
  fallen (false ∷ bs) q p = absurd (omega arith)
  fallen (true ∷ bs) q p =
      low (total top k (true ∷ bs) (pos (suc k)))
      (rw (total_height (true ∷ bs) (pos (suc k)) (level_mag false)) (down_none bs (suc top + suc k - suc k) q (omega arith)))

-- the bit b, turned where a test holds
abbrev pub signs : (ℕ → Bool) → Bool → List ℕ → List Bool
signs odd b cs = map (λ a. pick (odd a) (not b) b) cs

abbrev pub tested : (ℕ → Bool) → List ℕ → ℕ
tested odd cs = sum_l cs (λ a. pick (odd a) 1 0)

module _ (odd : ℕ → Bool) where
  -- the other bit stands where the test holds
  counts : (b : Bool) (cs : List ℕ) → (times (not b) (signs odd b cs) ≡ tested odd cs) × (times b (signs odd b cs) + tested odd cs ≡ length cs)
  unfolding times
  counts b [] = (refl, refl)
  counts b (a ∷ cs) = go b (odd a) (counts b cs)
    where
      go : (b t : Bool) → (times (not b) (signs odd b cs) ≡ tested odd cs) × (times b (signs odd b cs) + tested odd cs ≡ length cs)
          → (times (not b) (pick t (not b) b ∷ signs odd b cs) ≡ pick t 1 0 + tested odd cs)
          × (times b (pick t (not b) b ∷ signs odd b cs) + (pick t 1 0 + tested odd cs) ≡ suc (length cs))
      go true true (p, q) = (omega arith, omega arith)
      go true false (p, q) = (omega arith, omega arith)
      go false true (p, q) = (omega arith, omega arith)
      go false false (p, q) = (omega arith, omega arith)

  module _ (top k : ℕ) (fits : suc k ≤ top) (cs : List ℕ) (three : 3 ≤ length cs) where
    -- at most one of the others is turned: the bit stays
    pub stays : (b : Bool) → tested odd cs ≤ 1 → hard (total top k (signs odd b cs) (level k b)) ≡ b
    stays true h = kept_down top k fits (signs odd true cs) (omega (arith, (counts true cs).0)) (omega (arith, (counts true cs).0, (counts true cs).1))
    stays false h = kept_up top k fits (signs odd false cs) (omega (arith, (counts false cs).0))

    -- all others are turned: so is the bit
    pub turns : (b : Bool) → tested odd cs ≡ length cs → hard (total top k (signs odd b cs) (level k b)) ≡ not b
    turns false h = fallen top k fits (signs odd false cs) (omega (arith, (counts false cs).1)) (omega (arith, (counts false cs).0))
    turns true h = risen top k fits (signs odd true cs) (omega (arith, (counts true cs).1)) (omega (arith, (counts true cs).0))
