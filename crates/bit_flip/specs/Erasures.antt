-- The erasure pass, over a set of erased bits. Assumes nothing.
use Rattle.std.specs.Prelude.{Bool, List, ℕ, ◌-◌, ◌%◌, eqb, ltb, leb, length}
use Rattle.maths.specs.Tests.{pick, both}
use Rattle.maths.specs.Lists.{span}
use Rattle.maths.specs.Sums.{sum_l}
use Rattle.codes.specs.Edges.{Edge}
use Rattle.codes.specs.Equations.{bits_of, checks_of, word_of}

-- how many edges to erased bits a check has
unfoldable pub erased_edges : (ℕ → Bool) → List Edge → ℕ → ℕ
erased_edges erased es a = sum_l (bits_of es a) (λ v. pick (erased v) 1 0)

-- the parity of its other bits
unfoldable pub others : (ℕ → Bool) → List Edge → List ℕ → ℕ → ℕ
others erased es w a = sum_l (bits_of es a) (λ v. pick (erased v) 0 (word_of w v)) % 2

-- "each check with exactly one punctured edge votes for that bit, plus one if its other bits have odd parity, minus one otherwise":
-- the votes for a bit, and those against it
unfoldable pub ayes : (ℕ → Bool) → List Edge → List ℕ → ℕ → ℕ
ayes erased es w v = sum_l (checks_of es v) (λ a. pick (eqb (erased_edges erased es a) 1) (others erased es w a) 0)

unfoldable pub nays : (ℕ → Bool) → List Edge → List ℕ → ℕ → ℕ
nays erased es w v = sum_l (checks_of es v) (λ a. pick (eqb (erased_edges erased es a) 1) (1 - others erased es w a) 0)

-- "a bit is 1 if its sum is above zero, else 0"
unfoldable pub voted : (ℕ → Bool) → List Edge → List ℕ → List ℕ
voted erased es w = span (λ v. pick (erased v) (pick (ltb (nays erased es w v) (ayes erased es w v)) 1 0) (word_of w v)) 0 (length w)

-- the word after the erasure passes, and how many iterations they count
pub record Filled : Type 0 where
  pub word : List ℕ
  pub count : ℕ

abbrev pub filled : List ℕ → ℕ → Filled
filled w n = record { word = w; count = n }

-- "If p is above 0, one erasure pass follows when maxiters is at least 1 .. It counts 0 iterations."
unfoldable pub erasure_passes : (ℕ → Bool) → List Edge → ℕ → ℕ → List ℕ → Filled
erasure_passes erased es p limit w = filled (pick (both (ltb 0 p) (ltb 0 limit)) (voted erased es w) w) 0

-- the bits from n on, of t in all
abbrev pub from_on : ℕ → ℕ → ℕ → Bool
from_on n t v = both (leb n v) (ltb v t)
