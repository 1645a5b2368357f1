-- A run whose turn is a pass and then a test of what the pass left. Assumes nothing.
use mathlib.Core.Bool.{Bool, true, false}
use mathlib.Core.Path.{◌≡◌, refl, sym, ◌∙◌}
use Prim.Native.Nat.{ℕ, zero, suc, ◌+◌, ◌≤◌, ◌<◌}
use native.Mathlib.Nat.{add-zero, add-suc, suc-add, le_of_suc-le-suc, not-suc-le-zero}
use native.Mathlib.Omega.{arith}
use Rattle.maths.specs.Tests.{pick}
use Rattle.maths.specs.Budget.{Turn, stop, go, End, end, follow, run}

-- the state after k passes
unfoldable pub after : {S : Type 0} → (S → S) → ℕ → S → S
after pass zero s = s
after pass (suc k) s = after pass k (pass s)

module _ {S : Type 0} (pass : S → S) (ok : S → Bool) where
  -- the test fails after each of the first k passes
  abbrev pub NoneOf : ℕ → S → Type 0
  NoneOf k s = (j : ℕ) → j < k → ok (after pass (suc j) s) ≡ false

  -- the end of a run of b turns from number n on: no pass succeeds, and all are made; or k is the first that does
  pub data Ran (b n : ℕ) (s : S) (e : End S) : Type 0 where
    spent : e ≡ end false (n + b) (after pass b s) → NoneOf b s → Ran b n s e
    found : (k : ℕ) → k < b → e ≡ end true (n + k) (after pass (suc k) s) → ok (after pass (suc k) s) ≡ true → NoneOf k s → Ran b n s e

  none_more : (k : ℕ) (s : S) → ok (pass s) ≡ false → NoneOf k (pass s) → NoneOf (suc k) s
  unfolding after
  none_more k s h r zero l = h
  none_more k s h r (suc j) l = r j (le_of_suc-le-suc l)

  module _ (turn : S → Turn S) (is : (s : S) → turn s ≡ pick (ok (pass s)) (stop (pass s)) (go (pass s))) where
    -- the passes of a run are numbered, and it ends with the first after which the test holds
    pub run_ran : (b n : ℕ) (s : S) → Ran b n s (run turn b n s)
    unfolding run after
    run_ran zero n s = spent (rw add-zero) (λ j l. absurd (not-suc-le-zero l))
    run_ran (suc b) n s = by (ok (pass s)) refl (run_ran b (suc n) (pass s))
      where
        by : (t : Bool) → ok (pass s) ≡ t → Ran b (suc n) (pass s) (run turn b (suc n) (pass s))
            → Ran (suc b) n s (follow (turn s) n (run turn b (suc n)))
        by true q r = found zero (omega arith) (rw (is s, q, add-zero n)) q (λ j l. absurd (not-suc-le-zero l))
        by false q (spent e none) = spent (rw (is s, q) (e ∙ rw (suc-add n b, add-suc n b))) (none_more b s q none)
        by false q (found k l e y none) =
            found (suc k) (omega arith) (rw (is s, q) (e ∙ rw (suc-add n k, add-suc n k))) y (none_more k s q none)

    -- with at least one turn, its answer is the test of the state at the end
    pub run_tested : (b n : ℕ) (s : S) → 1 ≤ b → (run turn b n s).success ≡ ok (run turn b n s).state
    run_tested b n s h = by b h (run_ran b n s)
      where
        by : (b : ℕ) → 1 ≤ b → {e : End S} → Ran b n s e → e.success ≡ ok e.state
        by zero h r = absurd (omega arith)
        by (suc b) h (spent e none) = rw e (sym (none b (omega arith)))
        by (suc b) h (found k l e y none) = rw e (sym y)
