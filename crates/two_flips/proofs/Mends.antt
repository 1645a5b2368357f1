-- Errors that bit flipping takes away, step by step, as functions; and what the passes then return. Assumes nothing.
use mathlib.Core.Bool.{Bool, true, false}
use mathlib.Core.List.{List}
use mathlib.Core.Path.{◌≡◌, refl, sym, ap, ◌∙◌, fun_ext}
use Prim.Native.Nat.{ℕ, zero, suc, ◌+◌, ◌-◌, ◌%◌, ◌≤◌, ◌<◌}
use native.Mathlib.Decide.{ℕ_discrete}
use native.Mathlib.Omega.{arith}
use lib.Dec.{eqb}
use lib.ListN.{length}
use borrow.Author.Tests.{eq-eqb, ne_eqb}
use Rattle.maths.specs.Tests.{pick}
use Rattle.maths.specs.Lists.{span}
use Rattle.maths.specs.Budget.{go, end, run}
use Rattle.maths.specs.Sums.{sum_l}
use Rattle.maths.specs.Ones.{delta}
use Rattle.maths.proofs.Sums.{sum_l_zero}
use Rattle.maths.proofs.Ones.{delta_self, delta_other}
use Rattle.maths.proofs.Lists.{span_length, span_ext}
use Rattle.maths.proofs.Slices.{span_get, span_again, largest_is}
use Rattle.codes.specs.Edges.{Edge}
use Rattle.codes.specs.Equations.{bits_of, checks_of, par, word_of, Hold}
use Rattle.runs.specs.Meets.{holds}
use Rattle.runs.proofs.Parity.{holds_hold, hold_holds}
use Rattle.matrices.proofs.Edges.{Ranged, par_below}
use Rattle.bit_flip.specs.Flip.{broken, score, top_score, flipped, turn, passes}
use Rattle.bit_flip.specs.Steps.{Bits}
use Rattle.bit_flip.proofs.Scores.{sum_ranged, span_bits}
use Rattle.two_flips.specs.Words.{plus}
use Rattle.two_flips.specs.Clear.{Clear}
use Rattle.two_flips.proofs.Scores.{score_at, Leads, clear_leads}
use Rattle.two_flips.proofs.Added.{plus_is}
use Rattle.two_flips.proofs.AddedPasses.{passes_plus}

-- ---- errors, and how they go away in k flips: each flips the bits of n with the largest score
pub data Mends (es : List Edge) (n : ℕ) : ℕ → (ℕ → ℕ) → Type 0 where
  gone : {f : ℕ → ℕ} → ((v : ℕ) → v < n → f v ≡ 0) → Mends es n 0 f
  flips : {k : ℕ} {f : ℕ → ℕ} (top u : ℕ) (g : ℕ → ℕ) → 0 < top → u < n → score_at es f u ≡ top → ((v : ℕ) → v < n → score_at es f v ≤ top)
      → ((v : ℕ) → v < n → g v ≡ pick (eqb (score_at es f v) top) (1 - f v) (f v)) → Mends es n k g → Mends es n (suc k) f

-- where a bit is wrong there is one at least
pub mends_some : {es : List Edge} {n k : ℕ} {f : ℕ → ℕ} → Mends es n k f → (v : ℕ) → v < n → 0 < f v → 1 ≤ k
mends_some (gone none) v h wrong = absurd (omega (arith, none v h))
mends_some (flips top u g some hu at most next rest) v h wrong = omega arith

module _ (es : List Edge) (m n : ℕ) (ranged : Ranged m n es) where
  -- the scores of a list of n bits
  score_span : (f : ℕ → ℕ) → score es (span f 0 n) ≡ score_at es f
  unfolding score broken score_at
  score_span f =
      let same : ◌≡◌ {A = ℕ → ℕ} (λ a. par es (word_of (span f 0 n)) a % 2) (λ a. par es f a % 2) = fun_ext (λ a. par_below m n es ranged (word_of (span f 0 n)) f (λ v h. ap (λ (x : ℕ). x % 2) (span_get f 0 n v h)) a) in
      fun_ext (λ v. ap (sum_l (checks_of es v)) same)

  flipped_span : (f g : ℕ → ℕ) (top u : ℕ) → u < n → score_at es f u ≡ top → ((v : ℕ) → v < n → score_at es f v ≤ top)
      → ((v : ℕ) → v < n → g v ≡ pick (eqb (score_at es f v) top) (1 - f v) (f v)) → flipped es (span f 0 n) ≡ span g 0 n
  unfolding flipped top_score
  flipped_span f g top u hu at most next =
      let t = largest_is (score_at es f) top n u most hu at in
      rw (score_span f, span_length f 0 n, t)
      (span_ext _ _ 0 0 n (λ v h.
      let z : 0 + v < n = omega arith in
      rw (span_get f 0 n (0 + v) z) (sym (next (0 + v) z))))

  -- where a bit has a score, a check is broken
  none_broken_lem : (f : ℕ → ℕ) (u : ℕ) → Hold es m (word_of (span f 0 n)) → score_at es f u ≡ 0
  unfolding score broken
  none_broken_lem f u good =
      ap (λ (s : ℕ → ℕ). s u) (sym (score_span f))
      ∙ sum_ranged m n (broken es (span f 0 n)) (λ a. 0) good es ranged u
      ∙ sum_l_zero (checks_of es u)

  not_held : (f : ℕ → ℕ) (u : ℕ) → 0 < score_at es f u → holds es m (word_of (span f 0 n)) ≡ false
  not_held f u some = by (holds es m (word_of (span f 0 n))) refl
    where
      by : (x : Bool) → holds es m (word_of (span f 0 n)) ≡ x → holds es m (word_of (span f 0 n)) ≡ false
      by false e = e
      by true e = absurd (omega (arith, none_broken_lem f u (holds_hold es m (word_of (span f 0 n)) e)))

  zeros_hold : holds es m (word_of (span (λ v. 0) 0 n)) ≡ true
  zeros_hold =
      hold_holds es m (word_of (span (λ v. 0) 0 n)) (λ a h.
      par_below m n es ranged (word_of (span (λ v. 0) 0 n)) (λ v. 0) (λ v l. ap (λ (x : ℕ). x % 2) (span_get (λ v. 0) 0 n v l)) a
      ∙ ap (λ (x : ℕ). x % 2) (sum_l_zero (bits_of es a)))

  -- errors that are gone, and a turn that flips
  none_left : (f : ℕ → ℕ) → ((v : ℕ) → v < n → f v ≡ 0) → span f 0 n ≡ span (λ v. 0) 0 n
  none_left f none = span_ext f (λ v. 0) 0 0 n (λ v l. none (0 + v) (omega arith))

  turn_flips : (f g : ℕ → ℕ) (top u : ℕ) → 0 < top → u < n → score_at es f u ≡ top → ((v : ℕ) → v < n → score_at es f v ≤ top)
      → ((v : ℕ) → v < n → g v ≡ pick (eqb (score_at es f v) top) (1 - f v) (f v)) → turn es m (span f 0 n) ≡ go (span g 0 n)
  unfolding turn
  turn_flips f g top u pos hu at most next = rw (not_held f u (omega arith), flipped_span f g top u hu at most next)

  -- the run from such errors: one turn more finds that none is left
  run_mends : (k : ℕ) (f : ℕ → ℕ) → Mends es n k f → (b j : ℕ) → k < b → run (turn es m) b j (span f 0 n) ≡ end true (j + k) (span (λ v. 0) 0 n)
  unfolding run turn
  run_mends k f x zero j h = absurd (omega arith)
  run_mends k f (gone none) (suc b) j h =
      let e : j + 0 ≡ j = omega arith in
      rw (none_left f none, zeros_hold, e)
  run_mends k f (flips {k = k'} top u g pos hu at most next rest) (suc b) j h =
      let e : j + suc k' ≡ suc j + k' = omega arith in
      rw (turn_flips f g top u pos hu at most next, e) (run_mends k' g rest b (suc j) (omega arith))

  -- and without it none is left either, but that is not found
  run_spent : (k : ℕ) (f : ℕ → ℕ) → Mends es n k f → (j : ℕ) → run (turn es m) k j (span f 0 n) ≡ end false (j + k) (span (λ v. 0) 0 n)
  unfolding run
  run_spent k f (gone none) j =
      let e : j + 0 ≡ j = omega arith in
      rw (none_left f none, e)
  run_spent k f (flips {k = k'} top u g pos hu at most next rest) j =
      let e : j + suc k' ≡ suc j + k' = omega arith in
      rw (turn_flips f g top u pos hu at most next, e) (run_spent k' g rest (suc j))

  -- so a word that meets the equations comes back from such errors: at pass k, and without success where the limit is k
  module _ (w : List ℕ) (bits : Bits w) (long : length w ≡ n) (good : Hold es m (word_of w)) (k : ℕ) (f : ℕ → ℕ) (low : (v : ℕ) → f v < 2) (x : Mends es n k f) where
    restored : plus w (span (λ v. 0) 0 n) ≡ w
    restored =
        plus_is w (span (λ v. 0) 0 n) (λ v. 0) (λ v h. span_get (λ v. 0) 0 n v (omega arith))
        ∙ span_ext (λ v. (word_of w v + 0) % 2) (word_of w) 0 0 (length w) (λ v h. omega (arith, bits (0 + v)))
        ∙ span_again 0 w

    ended : (limit : ℕ) (success : Bool) → run (turn es m) limit 0 (span f 0 n) ≡ end success (0 + k) (span (λ v. 0) 0 n)
        → passes es m limit (plus w (span f 0 n)) ≡ end success k w
    ended limit success ran =
        let e : 0 + k ≡ k = omega arith in
        passes_plus es m n ranged w good bits limit (span f 0 n) (span_length f 0 n ∙ sym long) (span_bits f low n)
        ∙ rw (ran, e, restored)

    pub mended : (limit : ℕ) → k < limit → passes es m limit (plus w (span f 0 n)) ≡ end true k w
    mended limit h = ended limit true (run_mends k f x limit 0 h)

    pub untested : passes es m k (plus w (span f 0 n)) ≡ end false k w
    untested = ended k false (run_spent k f x 0)

-- ---- one clear bit
pub clear_mends : (es : List Edge) (n x : ℕ) → x < n → Clear es n x → Mends es n 1 (delta x)
clear_mends es n x hx clear =
    flips (score_at es (delta x) x) x (λ v. 0) lead.some hx refl (λ v h. bound v h (ℕ_discrete v x)) (λ v h. next v h (ℕ_discrete v x)) (gone (λ v h. refl))
  where
    lead : Leads es n x
    lead = clear_leads es n x clear

    bound : (v : ℕ) → v < n → Dec (v ≡ x) → score_at es (delta x) v ≤ score_at es (delta x) x
    bound v h (yes e) = rw e (omega arith)
    bound v h (no e) = omega (arith, lead.most v h e)

    next : (v : ℕ) → v < n → Dec (v ≡ x) → 0 ≡ pick (eqb (score_at es (delta x) v) (score_at es (delta x) x)) (1 - delta x v) (delta x v)
    next v h (yes e) = rw (e, eq-eqb (score_at es (delta x) x) (score_at es (delta x) x) refl) (omega (arith, delta_self x))
    next v h (no e) = rw (ne_eqb (score_at es (delta x) v) (score_at es (delta x) x) (λ q. omega (arith, lead.most v h e))) (sym (delta_other x v e))
