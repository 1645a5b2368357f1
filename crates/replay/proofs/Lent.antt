-- The part that is lent of a buffer full of one value. Assumes nothing.
use mathlib.Core.Path.{◌≡◌, ◌∙◌}
use Prim.Native.Nat.{ℕ, min}
use native.Mathlib.Omega.{arith}
use lib.ListN.{length, take, replicate}
use Rattle.maths.proofs.Slices.{replicate_front, lent_full}
use Rattle.replay.specs.Agreement.{lent}

module _ {A : Type 0} (room : ℕ) (x : A) (n : ℕ) {k : ℕ} (e : k ≡ min n room) where
  -- the front of a buffer that is full of one value
  pub least_lent : k ≡ length (take k (replicate room x))
  least_lent = lent_full room x k (omega arith)

  pub lent_is : take k (replicate room x) ≡ lent room x n
  lent_is = replicate_front room x k (omega arith) ∙ rw e
