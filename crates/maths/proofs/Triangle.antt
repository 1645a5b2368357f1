-- The way from one byte string to another over a third is no shorter. Assumes nothing.
use mathlib.Core.Path.{◌≡◌, ◌∙◌}
use mathlib.Core.List.{List}
use Prim.Native.Nat.{ℕ, ◌+◌, ◌*◌, ◌≤◌}
use native.Mathlib.Decide.{ℕ_discrete}
use native.Mathlib.Omega.{arith}
use lib.ListN.{length}
use borrow.Author.Tests.{eq-eqb, ne_eqb}
use Rattle.maths.specs.Bits.{bit_at}
use Rattle.maths.specs.Distance.{unequal, distance}
use Rattle.maths.proofs.Sums.{sum_n_le, sum_n_add}
use Rattle.maths.proofs.Distance.{unequal_low}

unequal_over : (f g h : ℕ → ℕ) (v : ℕ) → unequal f h v ≤ unequal f g v + unequal g h v
unequal_over f g h v = go (ℕ_discrete (f v) (g v)) (ℕ_discrete (g v) (h v))
  where
    go : Dec (f v ≡ g v) → Dec (g v ≡ h v) → unequal f h v ≤ unequal f g v + unequal g h v
    go (yes p) (yes q) = rw (eq-eqb (f v) (h v) (p ∙ q)) (omega arith)
    go (yes p) (no q) = rw (ne_eqb (g v) (h v) q) (omega (arith, unequal_low f h v))
    go (no p) q = rw (ne_eqb (f v) (g v) p) (omega (arith, unequal_low f h v))

pub distance_over : (s t u : List ℕ) → length s ≡ length t → distance s u ≤ distance s t + distance t u
unfolding distance
distance_over s t u e =
    let n = 8 * length s in
    let a = sum_n_le n (unequal (bit_at s) (bit_at u)) (λ v. unequal (bit_at s) (bit_at t) v + unequal (bit_at t) (bit_at u) v) (λ v h. unequal_over (bit_at s) (bit_at t) (bit_at u) v) in
    rw (← e) (omega (arith, a, sum_n_add n (unequal (bit_at s) (bit_at t)) (unequal (bit_at t) (bit_at u))))
