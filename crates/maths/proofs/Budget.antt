-- Laws of a run with a budget. Assumes nothing.
use mathlib.Core.Bool.{Bool, true, false}
use mathlib.Core.Path.{◌≡◌, refl}
use Prim.Native.Nat.{ℕ, zero, suc, ◌+◌, ◌-◌, ◌≤◌, ◌<◌}
use native.Mathlib.Nat.{sub-zero}
use native.Mathlib.Numerals.{add-one}
use native.Mathlib.Omega.{arith}
use Rattle.maths.specs.Tests.{pick}
use Rattle.maths.specs.Budget.{Turn, stop, go, End, end, follow, run, iterated}
use Rattle.maths.proofs.Tests.{never}

module _ {S : Type 0} (turn : S → Turn S) where
  -- a loop that runs the turns from number 0 on has the same end as the definition
  pub run_first : (m : ℕ) (s : S) → run turn (m - 0) 0 s ≡ run turn m 0 s
  run_first m s = rw (sub-zero m)

  module _ (m n : ℕ) (s : S) {all : End S} (inv : run turn (m - n) n s ≡ all) where
    unrolled : n < m → follow (turn s) n (run turn (m - (n + 1)) (n + 1)) ≡ all
    unfolding run
    unrolled h =
        let e : m - n ≡ suc (m - (n + 1)) = omega arith in
        rw add-one (rw (add-one) at (rw e at inv))

    -- a turn that goes on
    pub run_more : {t : S} → n < m → turn s ≡ go t → run turn (m - (n + 1)) (n + 1) t ≡ all
    run_more h e = rw e at (unrolled h)

    -- a turn that stops
    pub run_stop : {t : S} → n < m → turn s ≡ stop t → end true n t ≡ all
    run_stop h e = rw e at (unrolled h)

    -- the budget is spent
    pub run_out : n ≤ m → m ≤ n → end false m s ≡ all
    unfolding run
    run_out g h =
        let e : m - n ≡ 0 = omega arith in
        let f : n ≡ m = omega arith in
        rw (← f) (rw e at inv)

  -- what every stop leaves holds of the state of a success
  pub run_success : (P : S → Type 0) → ((s t : S) → turn s ≡ stop t → P t) → (b n : ℕ) (s : S) → (run turn b n s).success ≡ true → P (run turn b n s).state
  unfolding run
  run_success P h zero n s e = absurd (never refl e)
  run_success P h (suc b) n s e = by (turn s) refl e (λ t f. run_success P h b (suc n) t f)
    where
      by : (x : Turn S) → turn s ≡ x → (follow x n (run turn b (suc n))).success ≡ true
          → ((t : S) → (run turn b (suc n) t).success ≡ true → P (run turn b (suc n) t).state) → P (follow x n (run turn b (suc n))).state
      by (stop t) q f ih = h s t q
      by (go t) q f ih = ih t f

  -- what every turn keeps holds of the state at the end
  pub run_kept : (Q : S → Type 0) → ((s t : S) → turn s ≡ stop t → Q s → Q t) → ((s t : S) → turn s ≡ go t → Q s → Q t)
      → (b n : ℕ) (s : S) → Q s → Q (run turn b n s).state
  unfolding run
  run_kept Q p q zero n s h = h
  run_kept Q p q (suc b) n s h = by (turn s) refl (λ t k. run_kept Q p q b (suc n) t k)
    where
      by : (x : Turn S) → turn s ≡ x → ((t : S) → Q t → Q (run turn b (suc n) t).state) → Q (follow x n (run turn b (suc n))).state
      by (stop t) e ih = p s t e h
      by (go t) e ih = ih t (q s t e h)

  -- a first turn that stops
  pub run_at_once : (b : ℕ) (s t : S) → 1 ≤ b → turn s ≡ stop t → run turn b 0 s ≡ end true 0 t
  unfolding run
  run_at_once zero s t h e = absurd (omega arith)
  run_at_once (suc b) s t h e = rw e

-- ---- turns that stop where a test holds of the state, and go on with the next state
module _ {S : Type 0} (turn : S → Turn S) (good : S → Bool) (next final : S → S) (is : (s : S) → turn s ≡ pick (good s) (stop (final s)) (go (next s))) where
  -- how such a run ends: the test holds in no turn and all are made, or the run has the number of the first turn in which it holds
  pub data Ends (b n : ℕ) (s : S) (e : End S) : Type 0 where
    spent : e.success ≡ false → e.turns ≡ n + b → ((i : ℕ) → i < b → good (iterated next i s) ≡ false) → Ends b n s e
    stopped : (k : ℕ) → k < b → e.success ≡ true → e.turns ≡ n + k → good (iterated next k s) ≡ true
        → ((i : ℕ) → i < k → good (iterated next i s) ≡ false) → Ends b n s e

  -- what holds of the first state and of those after it
  from_first : (b : ℕ) (s : S) → good s ≡ false → ((i : ℕ) → i < b → good (iterated next i (next s)) ≡ false) → (i : ℕ) → i < suc b → good (iterated next i s) ≡ false
  unfolding iterated
  from_first b s e h zero l = e
  from_first b s e h (suc i) l = h i (omega arith)

  pub run_ends : (b n : ℕ) (s : S) → Ends b n s (run turn b n s)
  unfolding run iterated
  run_ends zero n s = spent refl (omega arith) (λ i h. absurd (omega arith))
  run_ends (suc b) n s = by (good s) refl (run_ends b (suc n) (next s))
    where
      by : (g : Bool) → good s ≡ g → Ends b (suc n) (next s) (run turn b (suc n) (next s)) → Ends (suc b) n s (follow (turn s) n (run turn b (suc n)))
      by true e ih = rw (is s, e) (stopped 0 (omega arith) refl (omega arith) e (λ i h. absurd (omega arith)))
      by false e (spent f t h) = rw (is s, e) (spent f (omega arith) (from_first b s e h))
      by false e (stopped k l f t g h) = rw (is s, e) (stopped (suc k) (omega arith) f (omega arith) g (from_first k s e h))
