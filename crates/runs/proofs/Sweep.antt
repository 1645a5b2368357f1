-- Which runs of a list lie within, and a fold over them edge by edge. Assumes nothing.
use Rattle.std.proofs.Common.{◌≡◌, ℕ, ◌+◌, ◌≤◌, Bool, true, false, leb, List, [], ◌∷◌, sym, refl, ◌∙◌, leb-true}
use mathlib.Core.List.{flat_map}
use Rattle.maths.specs.Tests.{pick}
use Rattle.maths.specs.Lists.{fold, keep}
use Rattle.maths.proofs.Tests.{both_first, both_second}
use Rattle.maths.proofs.Lists.{fold_append}
use Rattle.codes.specs.Edges.{Edge}
use Rattle.runs.specs.declared.EdgeRun.{EdgeRun}
use Rattle.runs.specs.Runs.{run_edges, within, laid}
use Rattle.runs.specs.Steps.{over_run}

pub within_low : (m n : ℕ) (r : EdgeRun) → within m n r ≡ true → (r.check.0 + r.size ≤ m) × (r.bit.0 + r.size ≤ n)
within_low m n r e = (
  leb-true (r.check.0 + r.size) m (both_first (leb (r.check.0 + r.size) m) (leb (r.bit.0 + r.size) n) e),
  leb-true (r.bit.0 + r.size) n (both_second (leb (r.check.0 + r.size) m) (leb (r.bit.0 + r.size) n) e),
)

-- ---- a fold over the runs that lie within is one over their edges
module _ {S : Type 0} (m n : ℕ) (step : Edge → S → S) where
  pub over_kept : (rs : List EdgeRun) (s : S) → fold (over_run m n step) rs s ≡ fold step (flat_map run_edges (keep (within m n) rs)) s
  unfolding fold over_run flat_map
  over_kept [] s = refl
  over_kept (r ∷ rs) s = over_kept rs (over_run m n step r s) ∙ go (within m n r)
    where
      go : (b : Bool) → fold step (flat_map run_edges (keep (within m n) rs)) (pick b (fold step (run_edges r) s) s)
          ≡ fold step (flat_map run_edges (pick b (r ∷ keep (within m n) rs) (keep (within m n) rs))) s
      go true = sym (fold_append step (run_edges r) (flat_map run_edges (keep (within m n) rs)) s)
      go false = refl

  pub over_laid : (rs : List EdgeRun) (s : S) → fold (over_run m n step) rs s ≡ fold step (laid m n rs) s
  unfolding laid
  over_laid rs s = over_kept rs s
