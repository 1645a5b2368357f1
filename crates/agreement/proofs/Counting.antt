-- Passes that stop where the equations hold of the word at hand are counted as is asked, and what is counted so is one number. Assumes nothing.
use mathlib.Core.Bool.{Bool, true, false}
use mathlib.Core.Path.{◌≡◌, refl, sym, ap, ◌∙◌}
use Prim.Native.Nat.{ℕ, ◌≤◌, ◌<◌}
use native.Mathlib.Decide.{dec_lt}
use native.Mathlib.Omega.{arith}
use Rattle.maths.specs.Tests.{pick}
use Rattle.maths.specs.Budget.{Turn, stop, go, run, iterated}
use Rattle.maths.proofs.Budget.{Ends, spent, stopped, run_ends}
use Rattle.codes.specs.Codes.{checks_in}
use Rattle.codes.specs.Edges.{edges}
use Rattle.codes.specs.Equations.{Meets}
use Rattle.runs.specs.Meets.{holds}
use Rattle.runs.proofs.Parity.{holds_hold, hold_holds}
use Rattle.report.specs.declared.Report.{Report}
use Rattle.report.specs.Report.{ending}
use Rattle.agreement.specs.Demands.{Counted}

neither : {A : Type 0} {b : Bool} → b ≡ true → b ≡ false → A
neither p q = absurd (let z : ◌≡◌ {A = ℕ} 0 1 = ap (λ (x : Bool). pick x 0 1) (sym p ∙ q) in omega arith)

-- ---- a run of turns whose test is that the equations hold of the word at hand
module _ (code : ℕ) (hand : ℕ → ℕ → ℕ) {S : Type 0} (turn : S → Turn S) (good : S → Bool) (next final : S → S)
    (is : (s : S) → turn s ≡ pick (good s) (stop (final s)) (go (next s))) (s : S)
    (same : (i : ℕ) → good (iterated next i s) ≡ holds (edges code) (checks_in code) (hand i)) where
  met : (i : ℕ) → good (iterated next i s) ≡ true → Meets code (hand i)
  met i e = holds_hold (edges code) (checks_in code) (hand i) (sym (same i) ∙ e)

  unmet : (i : ℕ) → good (iterated next i s) ≡ false → Meets code (hand i) → ⊥
  unmet i e h = neither (same i ∙ hold_holds (edges code) (checks_in code) (hand i) h) e

  pub run_counted : (limit : ℕ) {r : Report} → r ≡ ending (run turn limit 0 s).success (run turn limit 0 s).turns → Counted code hand limit r
  run_counted limit {r} e = by (run_ends turn good next final is limit 0 s)
    where
      success : r.success ≡ (run turn limit 0 s).success
      success = ap (λ (x : Report). x.success) e

      iters : r.iters ≡ (run turn limit 0 s).turns
      iters = ap (λ (x : Report). x.iters) e

      by : Ends turn good next final is limit 0 s (run turn limit 0 s) → Counted code hand limit r
      by (spent f t h) =
          record {
            none = λ z i l. unmet i (h i l);
            spent = λ z. iters ∙ t ∙ omega arith;
            within = λ z. neither z (success ∙ f);
            hold = λ z. neither z (success ∙ f);
            first = λ z. neither z (success ∙ f);
          }
      by (stopped k l f t g h) =
          let q : r.iters ≡ k = iters ∙ t ∙ omega arith in
          record {
            none = λ z. neither (success ∙ f) z;
            spent = λ z. neither (success ∙ f) z;
            within = λ z. omega arith;
            hold = λ z. rw q (met k g);
            first = λ z i m. unmet i (h i (omega arith));
          }

-- ---- what is counted so is one number, and one success
module _ {code : ℕ} {hand : ℕ → ℕ → ℕ} {limit : ℕ} where
  no_later : {r s : Report} → Counted code hand limit r → Counted code hand limit s → r.success ≡ true → s.success ≡ true → s.iters ≤ r.iters
  no_later {r} {s} c d e f = by (dec_lt r.iters s.iters)
    where
      by : Dec (r.iters < s.iters) → s.iters ≤ r.iters
      by (yes h) = absurd (d.first f r.iters h (c.hold e))
      by (no h) = omega arith

  pub counted_one : {r s : Report} → Counted code hand limit r → Counted code hand limit s → (r.success ≡ s.success) × (r.iters ≡ s.iters)
  counted_one {r} {s} c d = by r.success refl s.success refl
    where
      by : (x : Bool) → r.success ≡ x → (y : Bool) → s.success ≡ y → (x ≡ y) × (r.iters ≡ s.iters)
      by true e true f = (refl, omega (arith, no_later c d e f, no_later d c f e))
      by true e false f = absurd (d.none f r.iters (c.within e) (c.hold e))
      by false e true f = absurd (c.none e s.iters (d.within f) (d.hold f))
      by false e false f = (refl, c.spent e ∙ sym (d.spent f))
