-- What differs between two words that meet equations meets them too: with odd columns it is an even number of bits. Assumes nothing.
use mathlib.Core.Path.{◌≡◌}
use mathlib.Core.List.{List}
use Prim.Native.Nat.{ℕ, ◌+◌, ◌%◌, ◌<◌}
use native.Mathlib.Omega.{arith}
use Rattle.maths.specs.Sums.{sum_n, Even}
use Rattle.maths.specs.Distance.{unequal}
use Rattle.maths.proofs.Distance.{unequal_add}
use Rattle.codes.specs.Edges.{Edge}
use Rattle.codes.specs.Equations.{Hold}
use Rattle.matrices.specs.Columns.{Odd}
use Rattle.matrices.proofs.Edges.{Ranged, par_add, par_below, even_word}

module _ (es : List Edge) (m n : ℕ) (range : Ranged m n es) where
  -- what differs between two words that meet the equations meets them too
  pub difference_holds : (w w' : ℕ → ℕ) → ((v : ℕ) → w v < 2) → ((v : ℕ) → w' v < 2) → Hold es m w → Hold es m w' → Hold es m (unequal w w')
  difference_holds w w' bits bits' good good' a ha =
      let e = par_below m n es range w' (λ v. w v + unequal w w' v) (λ v h. flip v) a in
      let s = par_add es w (unequal w w') a in
      let g = good a ha in
      let g' = good' a ha in
      omega arith
    where
      flip : (v : ℕ) → w' v % 2 ≡ (w v + unequal w w' v) % 2
      flip v = omega (arith, unequal_add w w' bits bits' v)

-- equations with odd columns
module _ (es : List Edge) (m n : ℕ) (range : Ranged m n es) (odd : (x : ℕ) → x < n → Odd es x)
    (w w' : ℕ → ℕ) (bits : (v : ℕ) → w v < 2) (bits' : (v : ℕ) → w' v < 2) (good : Hold es m w) (good' : Hold es m w') where
  pub apart_even : Even (sum_n n (unequal w w'))
  apart_even = even_word m n es range odd (unequal w w') (difference_holds es m n range w w' bits bits' good good')
