-- Loops over runs: what holds at a turn, and why it holds at the next and what it says at the end, for any step of an edge. Assumes nothing.
use Rattle.std.proofs.Common.{◌≡◌, ℕ, zero, suc, leb, ◌+◌, ◌-◌, ◌/◌, ◌<◌, ◌≤◌, Bool, true, false, not, List, length, get_or, drop, set, replicate, sym, refl, ◌∙◌, arith, length-set, rules}
use native.Mathlib.Nat.{sub-zero}
use borrow.Author.Tests.{not-true, not-false}
use Rattle.maths.specs.Lists.{span, fold}
use Rattle.maths.specs.Tests.{both}
use Rattle.codes.specs.Equations.{check_of, bit_of}
use Rattle.maths.proofs.Lists.{span_turn, span_end}
use Rattle.maths.proofs.Slices.{fold_turn, fold_end}
use Rattle.codes.specs.Edges.{Edge, edge}
use Rattle.runs.specs.declared.EdgeRun.{EdgeRun}
use Rattle.runs.specs.Runs.{run, run_edges, within, turned, laid}
use Rattle.runs.specs.Steps.{put, over_run}
use Rattle.runs.proofs.Sweep.{within_low, over_laid}
use Rattle.runs.proofs.Tally.{put_is}

-- ---- a run of size edges from check x and bit y on, which lies within m checks and n bits, at turn i: what is left of it, folded over the present list,
-- gives what the whole run gives
pub record Putting (step : Edge → List ℕ → List ℕ) (m n x y size i : ℕ) (l₀ l : List ℕ) : Type 0 where
  pub low : i ≤ size
  pub checks : x + size ≤ m
  pub bits : y + size ≤ n
  pub long : length l ≡ length l₀
  pub folded : fold step (span (λ j. edge (x + j) (y + j)) i (size - i)) l ≡ over_run m n step (run x y size) l₀

module _ (step : Edge → List ℕ → List ℕ) (m n x y size : ℕ) (l₀ : List ℕ) (b : Bool) (e : b ≡ within m n (run x y size)) where
  pub run_passed : not b ≡ true → l₀ ≡ over_run m n step (run x y size) l₀
  unfolding over_run
  run_passed h = rw (sym e ∙ not-true b h)

  pub run_begins : not b ≡ false → Putting step m n x y size 0 l₀ l₀
  unfolding over_run run_edges
  run_begins h =
      let t = sym e ∙ not-false b h in
      let w = within_low m n (run x y size) t in
      record { low = omega arith; checks = w.0; bits = w.1; long = refl; folded = rw (t, sub-zero size) }

pub run_again : (near far : Edge → ℕ) (f : ℕ → ℕ → ℕ) (g : ℕ → ℕ) {m n x y size i k v : ℕ} {l₀ l : List ℕ} → Putting (put near far f g) m n x y size i l₀ l
    → i < size → k ≡ near (edge (x + i) (y + i)) → v ≡ f (get_or l k 0) (g (far (edge (x + i) (y + i)))) → Putting (put near far f g) m n x y size (i + 1) l₀ (set l k v)
run_again near far f g {x = x} {y} {size} {i} {l = l} p h ek ev =
    record {
      low = omega arith;
      checks = p.checks;
      bits = p.bits;
      long = length-set l _ _ ∙ p.long;
      folded = rw ek (span_turn (put near far f g) (λ j. edge (x + j) (y + j)) size i l p.folded h (put_is near far f g (edge (x + i) (y + i)) l (rw ek at ev)));
    }

pub run_ends : {step : Edge → List ℕ → List ℕ} {m n x y size i : ℕ} {l₀ l : List ℕ} → Putting step m n x y size i l₀ l → size ≤ i → l ≡ over_run m n step (run x y size) l₀
run_ends {step} {x = x} {y} {size} {i} {l = l} p h = span_end step (λ j. edge (x + j) (y + j)) size i l p.folded h

-- ---- the runs of a list, at turn i: those left, folded over the present list, give what all give
pub record Sweeping (step : Edge → List ℕ → List ℕ) (m n : ℕ) (rs : List EdgeRun) (i : ℕ) (l₀ l : List ℕ) : Type 0 where
  pub low : i ≤ length rs
  pub long : length l ≡ length l₀
  pub folded : fold (over_run m n step) (drop i rs) l ≡ fold step (laid m n rs) l₀

module _ {step : Edge → List ℕ → List ℕ} {m n : ℕ} {rs : List EdgeRun} {l₀ : List ℕ} where
  pub sweep_begins : Sweeping step m n rs 0 l₀ l₀
  sweep_begins = record { low = omega arith; long = refl; folded = over_laid m n step rs l₀ }

  pub sweep_again : (r : EdgeRun) (k o i : ℕ) (l l' : List ℕ) → l' ≡ over_run k o step r l → Sweeping step m n rs i l₀ l → i < length rs → r ≡ get_or rs i (run 0 0 0)
      → k ≡ m → o ≡ n → length l' ≡ length l → Sweeping step m n rs (i + 1) l₀ l'
  sweep_again r k o i l l' es p h er ek eo el =
      record {
        low = omega arith;
        long = el ∙ p.long;
        folded = fold_turn (over_run m n step) rs (run 0 0 0) i l p.folded h (rw (← er, ← ek, ← eo) es);
      }

  pub sweep_ends : {i : ℕ} {l : List ℕ} → Sweeping step m n rs i l₀ l → length rs ≤ i → l ≡ fold step (laid m n rs) l₀
  sweep_ends {i} {l} p h = fold_end (over_run m n step) rs (run 0 0 0) i l p.folded h

-- a run that is turned
both_turned : (a b : Bool) → both a b ≡ both b a
both_turned true true = refl
both_turned true false = refl
both_turned false true = refl
both_turned false false = refl

lane_turned : (f : ℕ → ℕ → ℕ) (g : ℕ → ℕ) (r : EdgeRun) (s n : ℕ) (l : List ℕ)
    → fold (put check_of bit_of f g) (span (λ i. edge (r.bit.0 + i) (r.check.0 + i)) s n) l ≡ fold (put bit_of check_of f g) (span (λ i. edge (r.check.0 + i) (r.bit.0 + i)) s n) l
unfolding fold span put
lane_turned f g r s zero l = refl
lane_turned f g r s (suc n) l = lane_turned f g r (suc s) n (set l (r.bit.0 + s) (f (get_or l (r.bit.0 + s) 0) (g (r.check.0 + s))))

run_turned : (f : ℕ → ℕ → ℕ) (g : ℕ → ℕ) (m n : ℕ) (r : EdgeRun) (l : List ℕ)
    → over_run n m (put check_of bit_of f g) (turned r) l ≡ over_run m n (put bit_of check_of f g) r l
unfolding over_run run_edges
run_turned f g m n r l =
    rw (both_turned (leb (r.bit.0 + r.size) n) (leb (r.check.0 + r.size) m), lane_turned f g r 0 r.size l)

pub sweep_turned : (f : ℕ → ℕ → ℕ) (g : ℕ → ℕ) {m n k i : ℕ} {rs : List EdgeRun} {l₀ : List ℕ} (r : EdgeRun) (l l' : List ℕ) → l' ≡ over_run k m (put check_of bit_of f g) (turned r) l
    → r ≡ get_or rs i (run 0 0 0) → Sweeping (put bit_of check_of f g) m n rs i l₀ l → i < length rs → k ≡ n → length l' ≡ length l
    → Sweeping (put bit_of check_of f g) m n rs (i + 1) l₀ l'
sweep_turned f g {m} {n} {k} {i} {rs} r l l' es er p h ek el = sweep_again r m k i l l' (es ∙ run_turned f g m k r l) p h er refl ek el

pub ruleset sweeps = (run_passed, run_begins, run_again, run_ends, sweep_begins, sweep_again, sweep_turned, sweep_ends, rules)
