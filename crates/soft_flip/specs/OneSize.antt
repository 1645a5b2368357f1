-- Confidences of one size: minus it for a bit 1, plus it for a bit 0. Assumes nothing.
use Rattle.std.specs.Prelude.{Bool, true, false, List, ◌≡◌, ℕ, suc, ◌<◌, ℤ, pos, negsuc, length, get_or}

-- the confidence of size k + 1 in a bit
abbrev pub level : ℕ → Bool → ℤ
level k true = negsuc k
level k false = pos (suc k)

-- every one of a list is of that size
abbrev pub OneSize : ℕ → List ℤ → Type 0
OneSize k llrs = (i : ℕ) → i < length llrs → (b : Bool) × (get_or llrs i (pos 0) ≡ level k b)
