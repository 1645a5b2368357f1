-- The main passes over a list of runs: one pass, and the loop of them, for `search passing`. Assumes nothing.
use mathlib.Core.Bool.{Bool, true, false}
use mathlib.Core.List.{List, map}
use mathlib.Core.Path.{◌≡◌, refl, sym, ◌∙◌}
use Prim.Native.Nat.{ℕ, ◌+◌, ◌-◌, ◌/◌, ◌≤◌, ◌<◌}
use native.Mathlib.Omega.{arith}
use borrow.Author.Rules.{rules}
use borrow.Author.Tests.{eq-eqb, ne_eqb}
use lib.Dec.{eqb}
use Rattle.maths.specs.Tests.{pick}
use Rattle.maths.specs.Lists.{fold, largest_of}
use Rattle.maths.specs.Budget.{stop, go, end, run}
use Rattle.maths.proofs.Budget.{run_first, run_more, run_stop, run_out}
use Rattle.codes.specs.Equations.{word_of}
use Rattle.runs.specs.declared.EdgeRun.{EdgeRun}
use Rattle.runs.specs.Runs.{laid}
use Rattle.runs.specs.Meets.{holds, syndrome_of}
use Rattle.runs.proofs.Parity.{none_broken_lem, laid_ranged}
use Rattle.scores.specs.Scores.{give, flip_byte}
use Rattle.bit_flip.specs.Flip.{flipped, turn, passes}
use Rattle.bit_flip.specs.Steps.{FewLaid, Bits}
use Rattle.bit_flip.proofs.Scores.{flipped_by, flipped_kept, gone}

-- ---- over the edges of those runs that lie within m checks and n bits
pub broken_moved : (rs : List EdgeRun) (w s : List ℕ) (k m n : ℕ) → s ≡ syndrome_of (laid m n rs) m (word_of w) → k ≡ m → s ≡ syndrome_of (laid k n rs) k (word_of w)
broken_moved rs w s k m n e l = rw l e

pub flip_by : (rs : List EdgeRun) (w s w₁ w₂ : List ℕ) (m n t : ℕ) → w₂ ≡ map (flip_byte (t / 2)) w₁ → t ≡ largest_of w₁ → w₁ ≡ fold (give (word_of s)) (laid m n rs) w
    → s ≡ syndrome_of (laid m n rs) m (word_of w) → Bits w → FewLaid rs → w₂ ≡ flipped (laid m n rs) w
flip_by rs w s w₁ w₂ m n t e₂ et e₁ es bits few = flipped_by (laid m n rs) m n w (laid_ranged m n rs) bits (few m n) es e₁ et e₂

-- ---- one pass: it stops where no check is broken, and else flips
module _ (rs : List EdgeRun) (w s : List ℕ) (m n t : ℕ) (et : t ≡ largest_of s) (es : s ≡ syndrome_of (laid m n rs) m (word_of w)) where
  found : eqb t 0 ≡ holds (laid m n rs) m (word_of w)
  found = rw (et, es) (none_broken_lem (laid m n rs) m (word_of w))

  pub pass_stops : t ≡ 0 → stop w ≡ turn (laid m n rs) m w
  unfolding turn
  pass_stops e = rw (sym found ∙ eq-eqb t 0 e)

  pub pass_goes : (k : ℕ) (w' : List ℕ) → (t ≡ 0 → ⊥) → w' ≡ flipped (laid k n rs) w → k ≡ m → go w' ≡ turn (laid m n rs) m w
  unfolding turn
  pass_goes k w' e f l = rw (sym found ∙ ne_eqb t 0 e, f, l)

-- ---- the loop, at pass k of limit, with m' checks and n' bits: the passes left give from the present word what all give from the first
pub record Passing (rs : List EdgeRun) (m n limit k m' n' : ℕ) (w₀ w : List ℕ) : Type 0 where
  pub low : k ≤ limit
  pub checks_long : m' ≡ m
  pub bits_long : n' ≡ n
  pub bits : Bits w
  pub ran : run (turn (laid m n rs) m) (limit - k) k w ≡ passes (laid m n rs) m limit w₀

pub passing_first : {rs : List EdgeRun} {w : List ℕ} {m n limit : ℕ} → Bits w → Passing rs m n limit 0 m n w w
passing_first {rs} {w} {m} {n} {limit} b = record { low = omega arith; checks_long = refl; bits_long = refl; bits = b; ran = run_first (turn (laid m n rs) m) limit w }

module _ {rs : List EdgeRun} {m n limit k m' n' : ℕ} {w₀ w : List ℕ} where
  pub passing_last : Passing rs m n limit k m' n' w₀ w → limit ≤ k → end false limit w ≡ passes (laid m n rs) m limit w₀
  passing_last p h = run_out (turn (laid m n rs) m) limit k w p.ran p.low h

  module _ (w' : List ℕ) (b : Bool) (e : pick b (stop w') (go w') ≡ turn (laid m' n' rs) m' w) (p : Passing rs m n limit k m' n' w₀ w) (h : k < limit) where
    turned_by : turn (laid m n rs) m w ≡ pick b (stop w') (go w')
    turned_by = sym (rw (p.checks_long, p.bits_long) at e)

    pub passing_stop : b ≡ true → end true k w' ≡ passes (laid m n rs) m limit w₀
    passing_stop f = run_stop (turn (laid m n rs) m) limit k w p.ran h (rw f at turned_by)

    pub passing_more : (m'' n'' : ℕ) → b ≡ false → m'' ≡ m' → n'' ≡ n' → Passing rs m n limit (k + 1) m'' n'' w₀ w'
    passing_more m'' n'' f lm ln =
        let g = rw f at turned_by in
        record {
          low = omega arith;
          checks_long = lm ∙ p.checks_long;
          bits_long = ln ∙ p.bits_long;
          bits = flipped_kept (laid m n rs) w p.bits (gone (laid m n rs) m w w' g);
          ran = run_more (turn (laid m n rs) m) limit k w p.ran h g;
        }

pub ruleset passing = (flip_by, broken_moved, pass_stops, pass_goes, passing_first, passing_last, passing_stop, passing_more, rules)
