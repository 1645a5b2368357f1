use borrow.Author.Tests.{le-leb, lt-leb}
use Rattle.min_sum.specs.Layouts.{make_up}
use Rattle.min_sum.proofs.Fitting.{all_listed, edges_counted}
use Rattle.min_sum.proofs.layout.Layout.is_made_of.Goals as goal

pub returns-then-runs-gt-MAX_RUNS : goal.returns-then-runs-gt-MAX_RUNS
unfolding make_up
returns-then-runs-gt-MAX_RUNS c = rw (lt-leb _ _ c.if-runs-gt-MAX_RUNS.true)

pub returns-then-not-all_within : goal.returns-then-not-all_within
unfolding make_up
returns-then-not-all_within c =
    rw (le-leb _ _ c.if-runs-gt-MAX_RUNS.false, ← all_listed _ c.args.runs.now, ← c.all_within.ensures, c.if-not-all_within.true)

pub returns : goal.returns
unfolding make_up
returns c =
    rw (
      le-leb _ _ c.if-runs-gt-MAX_RUNS.false,
      ← all_listed _ c.args.runs.now,
      ← c.all_within.ensures,
      c.if-not-all_within.false,
      c.count_edges.ensures,
      edges_counted c.args.runs.now,
    )
