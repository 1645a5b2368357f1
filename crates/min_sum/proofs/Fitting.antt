-- Room for the messages of a code, as a test and as facts. Assumes nothing.
use mathlib.Core.Bool.{Bool, true, false, ◌&&◌}
use mathlib.Core.List.{List, [], ◌∷◌, flat_map}
use mathlib.Core.Path.{◌≡◌, refl, sym, ap, ◌∙◌}
use Prim.Native.Nat.{ℕ, ◌+◌, ◌*◌, ◌≤◌, ◌<◌}
use native.Mathlib.Nat.{zero-add}
use borrow.Author.Tests.{leb-true, le-leb, lt-leb, eqb-true, eq-eqb}
use lib.Dec.{leb, eqb}
use lib.ListN.{length}
use Rattle.std.specs.Prelude.{sum_by}
use Rattle.std.specs.List.{list_all}
use Rattle.std.proofs.lemmas.List.Sums.{sum_by-cons}
use Rattle.maths.specs.Tests.{both, all}
use Rattle.maths.proofs.Tests.{both_first, both_second, T_true, true_T}
use Rattle.runs.specs.declared.EdgeRun.{EdgeRun}
use Rattle.runs.specs.Runs.{run_edges, within, room}
use Rattle.min_sum.specs.declared.layout.Layout.{Layout}
use Rattle.min_sum.specs.Layouts.{laid_out, make_up, lies_in, ready_for, Rest, Ready}
use Rattle.min_sum.proofs.Links.{runs_length}

-- std's words for what make_up says
pub all_listed : (f : EdgeRun → Bool) (rs : List EdgeRun) → list_all f rs ≡ all f rs
all_listed f [] = refl
all_listed f (r ∷ rs) = by (f r) (all_listed f rs)
  where
    by : (b : Bool) → list_all f rs ≡ all f rs → b && list_all f rs ≡ both b (all f rs)
    by true e = e
    by false e = refl

pub edges_counted : (rs : List EdgeRun) → sum_by (λ (r : EdgeRun). r.size) rs ≡ length (flat_map run_edges rs)
unfolding flat_map
edges_counted [] = refl
edges_counted (r ∷ rs) = sum_by-cons (λ (r : EdgeRun). r.size) r rs ∙ ap (λ n. r.size + n) (edges_counted rs) ∙ sym (runs_length r rs)

-- ---- runs make up the layout's edges
makes_by : (l : Layout) (rs : List EdgeRun) → length rs ≤ room → Rest l 0 rs → make_up l rs ≡ true
unfolding make_up
makes_by l rs few h =
    rw (le-leb (length rs) room few, T_true (all (within l.checks l.bits) rs) h.inside) (eq-eqb (length (flat_map run_edges rs)) l.edges (sym (zero-add _) ∙ h.all_edges))

pub makes_ready : (l : Layout) (rs : List EdgeRun) (llrs : ℕ) → llrs ≤ l.bits → make_up l rs ≡ true → Ready l rs llrs
unfolding make_up
makes_ready l rs llrs few e =
    let in_it = all (within l.checks l.bits) rs in
    let whole = eqb (length (flat_map run_edges rs)) l.edges in
    let rest = both_second (leb (length rs) room) (both in_it whole) e in
    record {
      short = leb-true (length rs) room (both_first (leb (length rs) room) (both in_it whole) e);
      runs = record { all_edges = zero-add _ ∙ eqb-true (length (flat_map run_edges rs)) l.edges (both_second in_it whole rest); inside = true_T in_it (both_first in_it whole rest) };
      few = few;
    }

-- what a pass asks is asked of how many edges, bits and checks there are, wherever the parts begin
pub ready_laid : (l : Layout) (rs : List EdgeRun) (llrs : ℕ) → Ready l rs llrs → Ready (laid_out l.edges l.bits l.checks) rs llrs
ready_laid l rs llrs r = record { short = r.short; runs = record { all_edges = r.runs.all_edges; inside = r.runs.inside }; few = r.few }

-- ---- a buffer has room for a layout, and the runs are its edges
module _ (l : Layout) (n m llrs : ℕ) (rs : List EdgeRun) where
  pub ready_by : 2 * l.edges + l.bits + 2 * l.checks ≤ n → l.checks ≤ m → Ready l rs llrs → ready_for l n m llrs rs ≡ true
  unfolding ready_for lies_in
  ready_by h k r = rw (le-leb (2 * l.edges + l.bits + 2 * l.checks) n h, le-leb l.checks m k, le-leb llrs l.bits r.few, makes_by l rs r.short r.runs)

  -- no room in the buffer, too few bytes, too many LLRs, or other runs
  pub not_long : n < 2 * l.edges + l.bits + 2 * l.checks → false ≡ ready_for l n m llrs rs
  unfolding ready_for lies_in
  not_long h = rw (lt-leb (2 * l.edges + l.bits + 2 * l.checks) n h)

  module _ (long : 2 * l.edges + l.bits + 2 * l.checks ≤ n) where
    pub not_marked : m < l.checks → false ≡ ready_for l n m llrs rs
    unfolding ready_for lies_in
    not_marked h = rw (le-leb (2 * l.edges + l.bits + 2 * l.checks) n long, lt-leb l.checks m h)

    module _ (marked : l.checks ≤ m) where
      pub not_few : l.bits < llrs → false ≡ ready_for l n m llrs rs
      unfolding ready_for lies_in
      not_few h = rw (le-leb (2 * l.edges + l.bits + 2 * l.checks) n long, le-leb l.checks m marked, lt-leb llrs l.bits h)

      pub made_up : llrs ≤ l.bits → make_up l rs ≡ ready_for l n m llrs rs
      unfolding ready_for lies_in
      made_up h = rw (le-leb (2 * l.edges + l.bits + 2 * l.checks) n long, le-leb l.checks m marked, le-leb llrs l.bits h)
