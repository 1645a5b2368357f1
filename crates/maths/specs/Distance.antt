-- The distance of two byte strings of one length. Assumes nothing.
use Rattle.std.specs.Prelude.{List, ℕ, ◌*◌, eqb, length}
use Rattle.maths.specs.Tests.{pick}
use Rattle.maths.specs.Sums.{sum_n}
use Rattle.maths.specs.Bits.{bit_at}
use Rattle.maths.specs.Ones.{ones}

-- 1 where two words differ, 0 where they agree
abbrev pub unequal : (ℕ → ℕ) → (ℕ → ℕ) → ℕ → ℕ
unequal f g v = pick (eqb (f v) (g v)) 0 1

-- the number of bits in which two byte strings differ
unfoldable pub distance : List ℕ → List ℕ → ℕ
distance s t = sum_n (8 * length s) (unequal (bit_at s) (bit_at t))

-- the bits in which they differ, the highest first
unfoldable pub places : List ℕ → List ℕ → List ℕ
places s t = ones (8 * length s) (unequal (bit_at s) (bit_at t))
