-- Request T-04, ahead of its landing: the erasure passes repeated until no bit is erased. Assumes nothing.
use Rattle.std.specs.Prelude.{Bool, not, List, ℕ, eqb, length}
use Rattle.maths.specs.Tests.{pick, both, below}
use Rattle.maths.specs.Budget.{Turn, stop, go, End, run}
use Rattle.codes.specs.Edges.{Edge}
use Rattle.bit_flip.specs.Erasures.{ayes, nays, voted}

-- a word, and which of its bits are still erased
pub record Partly : Type 0 where
  pub word : List ℕ
  pub erased : ℕ → Bool

abbrev pub partly : List ℕ → (ℕ → Bool) → Partly
partly w erased = record { word = w; erased = erased }

-- "In each pass the checks with exactly one edge to a bit still erased vote; known bits count with their values.":
-- "a bit with a sum above zero becomes 1, below zero becomes 0, both are marked known; with sum zero it stays erased and holds 0"
abbrev pub settled : List Edge → Partly → Partly
settled es s =
    partly (voted s.erased es s.word)
    (λ v. both (s.erased v) (eqb (ayes s.erased es s.word v) (nays s.erased es s.word v)))

abbrev pub all_known : Partly → Bool
all_known s = below (length s.word) (λ v. not (s.erased v))

-- "Passes repeat until no bit is erased or the limit is reached. The erasure count is the number, from 0, of the pass that finished, or the limit."
unfoldable pub erasure_turn : List Edge → Partly → Turn Partly
erasure_turn es s = let t = settled es s in pick (all_known t) (stop t) (go t)

abbrev pub repeated : (ℕ → Bool) → List Edge → ℕ → List ℕ → End Partly
repeated erased es limit w = run (erasure_turn es) limit 0 (partly w erased)
