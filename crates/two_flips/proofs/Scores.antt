-- The scores that errors give, by edges and by checks; a clear bit has a score, and the largest. Assumes nothing.
use mathlib.Core.Bool.{Bool, true, false}
use mathlib.Core.List.{List, [], ◌∷◌}
use mathlib.Core.Logic.{◌≢◌}
use mathlib.Core.Path.{◌≡◌, refl, sym, ap, ◌∙◌, fun_ext}
use Prim.Native.Nat.{ℕ, ◌+◌, ◌*◌, ◌%◌, ◌<◌}
use native.Mathlib.Decide.{ℕ_discrete, dec_lt}
use native.Mathlib.Omega.{arith}
use lib.Dec.{T, eqb, eqb→eq, ltb}
use borrow.Author.Tests.{lt-ltb, eq-eqb}
use Rattle.maths.specs.Tests.{pick, both, all}
use Rattle.maths.specs.Sums.{sum_l, sum_n}
use Rattle.maths.specs.Ones.{delta}
use Rattle.maths.specs.Tally.{tally}
use Rattle.maths.proofs.Tests.{both_true, both_false, pick_bit}
use Rattle.maths.proofs.Sums.{sum_n_ext}
use Rattle.maths.proofs.Ones.{delta_other, sum_counts}
use Rattle.codes.specs.Edges.{Edge}
use Rattle.codes.specs.Equations.{checks_of, par}
use Rattle.matrices.specs.Counts.{count}
use Rattle.matrices.proofs.Edges.{Ranged, ranged_first, count_par}
use Rattle.two_flips.specs.Clear.{odd_to, touching, Clear}

-- how many edges v has to the checks that the ones of f make odd
unfoldable pub score_at : List Edge → (ℕ → ℕ) → ℕ → ℕ
score_at es f v = sum_l (checks_of es v) (λ a. par es f a % 2)

-- ---- by edges: those of v to the checks that pass a test
sum_tested : (g : ℕ → Bool) (es : List Edge) (v : ℕ) → sum_l (checks_of es v) (λ a. pick (g a) 1 0) ≡ tally (λ e. both (g e.check) (eqb e.bit v)) es
sum_tested g [] v = refl
sum_tested g (e ∷ es) v = go (eqb e.bit v) (sum_tested g es v)
  where
    cs : List ℕ
    cs = checks_of es v

    go : (x : Bool) → sum_l cs (λ a. pick (g a) 1 0) ≡ tally (λ e. both (g e.check) (eqb e.bit v)) es
        → sum_l (pick x (e.check ∷ cs) cs) (λ a. pick (g a) 1 0) ≡ pick (both (g e.check) x) 1 0 + tally (λ e. both (g e.check) (eqb e.bit v)) es
    go true ih = rw (both_true (g e.check)) (omega arith)
    go false ih = rw (both_false (g e.check)) (omega arith)

-- how often a check stands among the checks of a bit
pub checks_count : (es : List Edge) (a v : ℕ) → sum_l (checks_of es v) (delta a) ≡ count es a v
unfolding count
checks_count es a v = sum_tested (λ c. eqb c a) es v

-- the edges of v to the checks to which x has an odd number are its score where x alone is wrong
pub touching_score : (es : List Edge) (x v : ℕ) → touching es x v ≡ score_at es (delta x) v
unfolding touching score_at
touching_score es x v =
    sym (sum_tested (odd_to es x) es v)
    ∙ ap (sum_l (checks_of es v)) (fun_ext (λ a. pick_bit (count es a x % 2) (omega arith) ∙ ap (λ (c : ℕ). c % 2) (count_par es a x)))

-- ---- a clear bit, by the scores
sum_some : (cs : List ℕ) (f : ℕ → ℕ) (a : ℕ) → 0 < sum_l cs (delta a) → 0 < f a → 0 < sum_l cs f
sum_some [] f a some h = absurd (omega arith)
sum_some (c ∷ cs) f a some h = go (ℕ_discrete c a) (sum_some cs f a)
  where
    go : Dec (c ≡ a) → (0 < sum_l cs (delta a) → 0 < f a → 0 < sum_l cs f) → 0 < f c + sum_l cs f
    go (yes e) ih = omega (arith, ap f e)
    go (no e) ih = omega (arith, ih (omega (arith, delta_other a c e)) h)

some_term : (cs : List ℕ) (f : ℕ → ℕ) → 0 < sum_l cs f → (a : ℕ) × (0 < f a)
some_term [] f some = absurd (omega arith)
some_term (c ∷ cs) f some = go (dec_lt 0 (f c)) (some_term cs f)
  where
    go : Dec (0 < f c) → (0 < sum_l cs f → (a : ℕ) × (0 < f a)) → (a : ℕ) × (0 < f a)
    go (yes h) ih = (c, h)
    go (no h) ih = ih (omega arith)

-- where x alone is wrong it has a score, and every other bit a lower one
pub record Leads (es : List Edge) (n x : ℕ) : Type 0 where
  pub some : 0 < score_at es (delta x) x
  pub most : (v : ℕ) → v < n → v ≢ x → score_at es (delta x) v < score_at es (delta x) x

module _ (es : List Edge) (n x : ℕ) where
  pub clear_leads : Clear es n x → Leads es n x
  unfolding score_at
  clear_leads c =
      let a = c.check in
      let odd = eqb→eq (count es a x % 2) 1 c.odd in
      let one = ap (λ (z : ℕ). z % 2) (count_par es a x) in
      record {
        some = sum_some (checks_of es x) (λ a. par es (delta x) a % 2) a (omega (arith, checks_count es a x)) (omega arith);
        most = λ v h ne. omega (arith, touching_score es x v, touching_score es x x, c.most v h ne);
      }

  pub leads_clear : Leads es n x → Clear es n x
  unfolding score_at
  leads_clear l =
      let z = some_term (checks_of es x) (λ a. par es (delta x) a % 2) l.some in
      let odd : count es z.0 x % 2 ≡ 1 = omega (arith, z.1, count_par es z.0 x) in
      record {
        check = z.0;
        odd = rw (eq-eqb (count es z.0 x % 2) 1 odd) tt;
        most = λ v h ne. omega (arith, touching_score es x v, touching_score es x x, l.most v h ne);
      }

-- ---- as sums over all checks
module _ (m n : ℕ) where
  checks_below : (es : List Edge) → Ranged m n es → (v : ℕ) → T (all (λ a. ltb a m) (checks_of es v))
  checks_below [] r v = tt
  checks_below (e ∷ es) r v =
      let z = ranged_first m n e es r in
      go (eqb e.bit v) z.0 (checks_below es z.2 v)
    where
      go : (x : Bool) → e.check < m → T (all (λ a. ltb a m) (checks_of es v)) → T (all (λ a. ltb a m) (pick x (e.check ∷ checks_of es v) (checks_of es v)))
      go true h ih = rw (lt-ltb e.check m h) ih
      go false h ih = ih

  pub score_sum : (es : List Edge) → Ranged m n es → (f : ℕ → ℕ) (v : ℕ) → score_at es f v ≡ sum_n m (λ a. par es f a % 2 * count es a v)
  unfolding score_at
  score_sum es r f v =
      sum_counts m (checks_of es v) (λ a. par es f a % 2) (checks_below es r v)
      ∙ sum_n_ext m _ _ (λ a h. ap (λ (x : ℕ). par es f a % 2 * x) (checks_count es a v))
