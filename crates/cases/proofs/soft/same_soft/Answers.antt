use Rattle.std.proofs.Common.{ℕ, ◌≡◌, ◌≢◌, true, false, refl, rules}
use Rattle.maths.specs.Tests.{Agrees}
use Rattle.maths.proofs.Tests.{never}
use lib.IntN.{ℤ}
use Rattle.std.proofs.lemmas.Iterator.{YieldsList-from_slice, YieldsList-from_zip, cases_from_all}
use Rattle.cases.specs.Cases.{signed}
use Rattle.cases.proofs.Confidence.{same_by}
use Rattle.cases.proofs.soft.same_soft.Goals as goal

pub returns-then-soft-bytes : goal.returns-then-soft-bytes
returns-then-soft-bytes c =
    same_by _ _ c.if-soft-bytes.true _
    (cases_from_all c.all.new.self _ _ (λ (p : ℤ × ℕ). p.0 ≡ signed p.1) (λ (p : ℤ × ℕ). p.0 ≢ signed p.1) c.all.ensures.ran
    (YieldsList-from_zip (YieldsList-from_slice c.args.soft.now cc) (YieldsList-from_slice c.args.bytes.now cc))
    (λ x q k. let a : Agrees true (x.0.now ≡ signed x.1.now) = search rules in (search rules, a.sound refl))
    (λ x q k p. let a : Agrees false (x.0.now ≡ signed x.1.now) = search rules in never refl (a.complete p)))
