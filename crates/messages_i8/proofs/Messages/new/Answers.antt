use mathlib.Core.Path.{sym, ◌∙◌}
use native.Mathlib.Omega.{arith}
use lib.ListN.{length}
use Rattle.min_sum.proofs.Fitting.{not_long, not_marked, not_few, made_up, makes_ready, ready_laid}
use Rattle.messages_i8.proofs.Messages.new.Goals as goal

-- the last fact of a split is how long what is left is
pub returns-in_err-u : goal.returns-in_err-u
returns-in_err-u c = rw (c.from_residual.ensures, ← not_long c.args.at (length c.args.working.now) (length c.args.marks.now) (length c.args.llrs.now) c.args.runs.now (omega (arith, c.in_err-u.ensures.cases)))

pub returns-in_err-v : goal.returns-in_err-v
returns-in_err-v c = rw (c.from_residual-in_err-v.ensures, ← not_long c.args.at (length c.args.working.now) (length c.args.marks.now) (length c.args.llrs.now) c.args.runs.now (omega (arith, c.in_err-v.ensures.cases, c.in_ok-u.ensures.cases.4)))

pub returns-in_err-marginals : goal.returns-in_err-marginals
returns-in_err-marginals c = rw (c.from_residual-in_err-marginals.ensures, ← not_long c.args.at (length c.args.working.now) (length c.args.marks.now) (length c.args.llrs.now) c.args.runs.now (omega (arith, c.in_err-marginals.ensures.cases, c.in_ok-u.ensures.cases.4, c.in_ok-v.ensures.cases.4)))

pub returns-in_err-first : goal.returns-in_err-first
returns-in_err-first c = rw (c.from_residual-in_err-first.ensures, ← not_long c.args.at (length c.args.working.now) (length c.args.marks.now) (length c.args.llrs.now) c.args.runs.now (omega (arith, c.in_err-first.ensures.cases, c.in_ok-u.ensures.cases.4, c.in_ok-v.ensures.cases.4, c.in_ok-marginals.ensures.cases.4)))

pub returns-in_err-second : goal.returns-in_err-second
returns-in_err-second c = rw (c.from_residual-in_err-second.ensures, ← not_long c.args.at (length c.args.working.now) (length c.args.marks.now) (length c.args.llrs.now) c.args.runs.now (omega (arith, c.in_err-second.ensures.cases, c.in_ok-u.ensures.cases.4, c.in_ok-v.ensures.cases.4, c.in_ok-marginals.ensures.cases.4, c.in_ok-first.ensures.cases.4)))

pub returns-in_err-marks : goal.returns-in_err-marks
returns-in_err-marks c =
    rw (c.from_residual-in_err-marks.ensures, ← not_marked c.args.at (length c.args.working.now) (length c.args.marks.now) (length c.args.llrs.now) c.args.runs.now (omega (arith, c.in_ok-u.ensures.cases.4, c.in_ok-v.ensures.cases.4, c.in_ok-marginals.ensures.cases.4, c.in_ok-first.ensures.cases.4, c.in_ok-second.ensures.cases.4)) c.in_err-marks.ensures.cases)

pub returns-then-llrs-at : goal.returns-then-llrs-at
returns-then-llrs-at c =
    rw (← not_few c.args.at (length c.args.working.now) (length c.args.marks.now) (length c.args.llrs.now) c.args.runs.now (omega (arith, c.in_ok-u.ensures.cases.4, c.in_ok-v.ensures.cases.4, c.in_ok-marginals.ensures.cases.4, c.in_ok-first.ensures.cases.4, c.in_ok-second.ensures.cases.4)) (omega (arith, c.in_ok-marks.ensures.cases.4)) c.if-llrs-at.true)

pub returns-then-not-is_made_of : goal.returns-then-not-is_made_of
returns-then-not-is_made_of c =
    rw (← made_up c.args.at (length c.args.working.now) (length c.args.marks.now) (length c.args.llrs.now) c.args.runs.now (omega (arith, c.in_ok-u.ensures.cases.4, c.in_ok-v.ensures.cases.4, c.in_ok-marginals.ensures.cases.4, c.in_ok-first.ensures.cases.4, c.in_ok-second.ensures.cases.4)) (omega (arith, c.in_ok-marks.ensures.cases.4)) c.if-llrs-at.false, ← c.is_made_of.ensures, c.if-not-is_made_of.true)

pub invariant_of-result : goal.invariant_of-result
invariant_of-result c =
    let u = c.in_ok-u.ensures.cases.1 in
    let checks = c.in_ok-marks.ensures.cases.1 in
    let bits = c.in_ok-marginals.ensures.cases.1 in
    let made = makes_ready c.args.at c.args.runs.now _ c.if-llrs-at.false (sym c.is_made_of.ensures ∙ c.if-not-is_made_of.false) in
    record {
      v = omega (arith, u, c.in_ok-v.ensures.cases.1);
      first = omega (arith, checks, c.in_ok-first.ensures.cases.1);
      second = omega (arith, checks, c.in_ok-second.ensures.cases.1);
      ready = rw (u, bits, checks) (ready_laid c.args.at c.args.runs.now _ made);
    }

pub returns : goal.returns
returns c =
    rw (← made_up c.args.at (length c.args.working.now) (length c.args.marks.now) (length c.args.llrs.now) c.args.runs.now (omega (arith, c.in_ok-u.ensures.cases.4, c.in_ok-v.ensures.cases.4, c.in_ok-marginals.ensures.cases.4, c.in_ok-first.ensures.cases.4, c.in_ok-second.ensures.cases.4)) (omega (arith, c.in_ok-marks.ensures.cases.4)) c.if-llrs-at.false, ← c.is_made_of.ensures, c.if-not-is_made_of.false, c.in_ok-second.ensures.cases.2, c.in_ok-first.ensures.cases.2, c.in_ok-marginals.ensures.cases.2, c.in_ok-v.ensures.cases.2, c.in_ok-u.ensures.cases.2, c.in_ok-marks.ensures.cases.2, c.in_ok-first.ensures.cases.3, c.in_ok-marginals.ensures.cases.3, c.in_ok-v.ensures.cases.3, c.in_ok-u.ensures.cases.3)
