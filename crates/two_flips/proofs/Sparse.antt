-- Bit flipping by short lists: the errors, the odd checks, and the bits on these, each as often as its score. Assumes nothing.
use mathlib.Core.Bool.{Bool, true, false}
use mathlib.Core.List.{List, [], ◌∷◌, ◌++◌}
use mathlib.Core.Path.{◌≡◌, refl, sym, ap, ◌∙◌, fun_ext, subst}
use Prim.Native.Nat.{ℕ, zero, suc, ◌+◌, ◌-◌, ◌%◌, ◌≤◌, ◌<◌, max}
use native.Mathlib.Decide.{dec_lt, ℕ_discrete}
use native.Mathlib.Omega.{arith}
use lib.Dec.{T, eqb, ltb, ltb→lt}
use borrow.Author.Tests.{eq-eqb, ne_eqb, eqb-true, eqb-false}
use Rattle.maths.specs.Tests.{pick, both, all}
use Rattle.maths.specs.Sums.{sum_l}
use Rattle.maths.specs.Ones.{delta}
use Rattle.maths.proofs.Tests.{never, both_left, both_right}
use Rattle.maths.proofs.Sums.{sum_l_append, sum_l_add, sum_l_zero}
use Rattle.maths.proofs.Ones.{delta_swap, delta_self, delta_other}
use Rattle.codes.specs.Edges.{Edge}
use Rattle.codes.specs.Equations.{bits_of, checks_of, par}
use Rattle.matrices.specs.Counts.{count}
use Rattle.matrices.proofs.Edges.{par_add, count_par}
use Rattle.low_weights.proofs.Occurs.{occurs, Once, toggles, toggles_occurs}
use Rattle.low_weights.proofs.Search.{member}
use Rattle.two_flips.proofs.Scores.{score_at, checks_count}
use Rattle.two_flips.proofs.Mends.{Mends, gone, flips}

-- ---- the computation
-- how often a number stands in a list
abbrev pub tell : ℕ → List ℕ → ℕ
tell u [] = 0
tell u (x ∷ xs) = elim (eqb x u) [ true ↦ suc (tell u xs) | false ↦ tell u xs ]

-- the largest number of times that one of some stands in a list
abbrev pub most : List ℕ → List ℕ → ℕ
most all [] = 0
most all (u ∷ us) = max (tell u all) (most all us)

-- those of some, each once, that stand t times in a list
abbrev pub those : List ℕ → ℕ → List ℕ → List ℕ
those all t [] = []
those all t (u ∷ us) =
    let rest = those all t us in
    elim (eqb (tell u all) t) [ true ↦ elim (member u rest) [ true ↦ rest | false ↦ u ∷ rest ] | false ↦ rest ]

abbrev pub empty : List ℕ → Bool
empty [] = true
empty (x ∷ xs) = false

module _ (bits checks : ℕ → List ℕ) where
  -- the checks that some errors make odd
  abbrev pub odds : List ℕ → List ℕ
  odds [] = []
  odds (v ∷ vs) = toggles (checks v) (odds vs)

  -- the bits on some checks, each as often as it is on one
  abbrev pub near : List ℕ → List ℕ
  near [] = []
  near (c ∷ cs) = bits c ++ near cs

  -- some errors go away in at most k flips
  abbrev pub mends : ℕ → ℕ → List ℕ → Bool
  mends n zero vs = empty vs
  mends n (suc k) vs =
      elim (empty vs) [
        | true ↦ true
        | false ↦
            let all_Near = near (odds vs) in
            let top = most all_Near all_Near in
            let next = mends n k (toggles (those all_Near top all_Near) vs) in
            both (ltb 0 top) (both (all (λ u. ltb u n) all_Near) next)
      ]

-- ---- its soundness
pub tell_occurs : (u : ℕ) (xs : List ℕ) → tell u xs ≡ occurs xs u
tell_occurs u [] = refl
tell_occurs u (x ∷ xs) = go (eqb x u) (tell_occurs u xs)
  where
    go : (b : Bool) → tell u xs ≡ occurs xs u → elim b [ true ↦ suc (tell u xs) | false ↦ tell u xs ] ≡ pick b 1 0 + occurs xs u
    go true ih = omega arith
    go false ih = omega arith

-- a number that stands in a list is told by it
most_bound : (all us : List ℕ) (v : ℕ) → 0 < occurs us v → occurs all v ≤ most all us
most_bound all [] v some = absurd (omega arith)
most_bound all (u ∷ us) v some = go (ℕ_discrete u v) (most_bound all us v)
  where
    go : Dec (u ≡ v) → (0 < occurs us v → occurs all v ≤ most all us) → occurs all v ≤ max (tell u all) (most all us)
    go (yes e) next = let h : tell u all ≡ occurs all v = tell_occurs u all ∙ ap (occurs all) e in omega arith
    go (no e) next = let h = next (omega (arith, delta_other v u e)) in omega arith

most_at : (all us : List ℕ) → 0 < most all us → (u : ℕ) × (0 < occurs us u) × (occurs all u ≡ most all us)
most_at all [] some = absurd (omega arith)
most_at all (u ∷ us) some = go (dec_lt (tell u all) (most all us)) (most_at all us)
  where
    go : Dec (tell u all < most all us) → (0 < most all us → (u : ℕ) × (0 < occurs us u) × (occurs all u ≡ most all us))
        → (v : ℕ) × (0 < occurs (u ∷ us) v) × (occurs all v ≡ max (tell u all) (most all us))
    go (yes h) next = let z = next (omega arith) in (z.0, omega (arith, z.1), omega (arith, z.2))
    go (no h) next = (u, omega (arith, delta_self u), omega (arith, tell_occurs u all))

member_yes : (u : ℕ) (xs : List ℕ) → member u xs ≡ true → 0 < occurs xs u
member_yes u [] e = absurd (never refl e)
member_yes u (x ∷ xs) e = go (eqb u x) refl e (member_yes u xs)
  where
    go : (b : Bool) → eqb u x ≡ b → elim b [ true ↦ true | false ↦ member u xs ] ≡ true → (member u xs ≡ true → 0 < occurs xs u) → 0 < occurs (x ∷ xs) u
    go true h e next = omega (arith, ap (delta u) (sym (eqb-true u x h)), delta_self u)
    go false h e next = omega (arith, next e)

member_no : (u : ℕ) (xs : List ℕ) → member u xs ≡ false → occurs xs u ≡ 0
member_no u [] e = refl
member_no u (x ∷ xs) e = go (eqb u x) refl e (member_no u xs)
  where
    go : (b : Bool) → eqb u x ≡ b → elim b [ true ↦ true | false ↦ member u xs ] ≡ false → (member u xs ≡ false → occurs xs u ≡ 0) → occurs (x ∷ xs) u ≡ 0
    go true h e next = absurd (never e refl)
    go false h e next = omega (arith, next e, delta_other u x (λ q. eqb-false u x h (sym q)))

module _ (all : List ℕ) (t : ℕ) where
  abbrev put : Bool → Bool → ℕ → List ℕ → List ℕ
  put b c u rest = elim b [ true ↦ elim c [ true ↦ rest | false ↦ u ∷ rest ] | false ↦ rest ]

  -- no number twice
  those_once : (us : List ℕ) → Once (those all t us)
  those_once [] v = omega arith
  those_once (u ∷ us) v = go (eqb (tell u all) t) (member u (those all t us)) refl (those_once us v)
    where
      go : (b c : Bool) → member u (those all t us) ≡ c → occurs (those all t us) v < 2 → occurs (put b c u (those all t us)) v < 2
      go true true e ih = ih
      go false c e ih = ih
      go true false e ih = at (ℕ_discrete u v)
        where
          at : Dec (u ≡ v) → delta v u + occurs (those all t us) v < 2
          at (yes q) = omega (arith, ap (occurs (those all t us)) q, member_no u (those all t us) e, ap (delta v) q, delta_self v)
          at (no q) = omega (arith, delta_other v u q)

  -- none that does not stand t times
  those_out : (us : List ℕ) (v : ℕ) → (occurs all v ≡ t → ⊥) → occurs (those all t us) v ≡ 0
  those_out [] v ne = refl
  those_out (u ∷ us) v ne = go (eqb (tell u all) t) (member u (those all t us)) refl (those_out us v ne)
    where
      go : (b c : Bool) → eqb (tell u all) t ≡ b → occurs (those all t us) v ≡ 0 → occurs (put b c u (those all t us)) v ≡ 0
      go true true e ih = ih
      go false c e ih = ih
      go true false e ih =
          omega (arith, delta_other v u (λ q. ne (ap (occurs all) (sym q) ∙ sym (tell_occurs u all) ∙ eqb-true (tell u all) t e)))

  -- all that do
  those_in : (us : List ℕ) (v : ℕ) → 0 < occurs us v → occurs all v ≡ t → 0 < occurs (those all t us) v
  those_in [] v some e = absurd (omega arith)
  those_in (u ∷ us) v some e = go (ℕ_discrete u v) (eqb (tell u all) t) (member u (those all t us)) refl refl (λ h. those_in us v h e)
    where
      go : Dec (u ≡ v) → (b c : Bool) → eqb (tell u all) t ≡ b → member u (those all t us) ≡ c → (0 < occurs us v → 0 < occurs (those all t us) v)
          → 0 < occurs (put b c u (those all t us)) v
      go (yes q) true true hb hc ih = omega (arith, member_yes u (those all t us) hc, ap (occurs (those all t us)) q)
      go (yes q) true false hb hc ih = omega (arith, ap (delta v) q, delta_self v)
      go (yes q) false c hb hc ih = absurd (eqb-false (tell u all) t hb (tell_occurs u all ∙ ap (occurs all) q ∙ e))
      go (no q) true true hb hc ih = ih (omega (arith, delta_other v u q))
      go (no q) true false hb hc ih = omega (arith, ih (omega (arith, delta_other v u q)))
      go (no q) false c hb hc ih = ih (omega (arith, delta_other v u q))

pub all_occurs : (g : ℕ → Bool) (us : List ℕ) (v : ℕ) → T (all g us) → 0 < occurs us v → T (g v)
all_occurs g [] v t some = absurd (omega arith)
all_occurs g (u ∷ us) v t some = go (ℕ_discrete u v) (all_occurs g us v (both_right (g u) (all g us) t))
  where
    go : Dec (u ≡ v) → (0 < occurs us v → T (g v)) → T (g v)
    go (yes e) next = subst (λ (x : ℕ). T (g x)) e (both_left (g u) (all g us) t)
    go (no e) next = next (omega (arith, delta_other v u e))

module _ (es : List Edge) (bits checks : ℕ → List ℕ)
    (bits_count : (c u : ℕ) → occurs (bits c) u ≡ count es c u) (check_count : (c u : ℕ) → occurs (checks u) c ≡ count es c u) where
  -- the odd checks are those with an odd sum
  odds_par : (vs : List ℕ) (c : ℕ) → occurs (odds bits checks vs) c ≡ par es (occurs vs) c % 2
  odds_par [] c = sym (ap (λ (x : ℕ). x % 2) (sum_l_zero (bits_of es c)))
  odds_par (v ∷ vs) c =
      let once : Once (odds bits checks vs) = λ y. omega (arith, odds_par vs y) in
      let split = par_add es (λ u. delta u v) (occurs vs) c in
      let here = ap (λ (f : ℕ → ℕ). par es f c) (fun_ext (λ u. delta_swap u v)) ∙ sym (count_par es c v) in
      omega (arith, toggles_occurs (checks v) (odds bits checks vs) once c, odds_par vs c, check_count c v, split, here)

  -- a bit stands among those near as often as it has edges to them
  near_sum : (cs : List ℕ) (u : ℕ) → sum_l (checks_of es u) (occurs cs) ≡ occurs (near bits checks cs) u
  near_sum [] u = sum_l_zero (checks_of es u)
  near_sum (c ∷ cs) u =
      let here = ap (sum_l (checks_of es u)) (fun_ext (λ a. delta_swap a c)) ∙ checks_count es c u ∙ sym (bits_count c u) in
      omega (arith, sum_l_add (checks_of es u) (λ a. delta a c) (occurs cs), here, near_sum cs u, sum_l_append (bits c) (near bits checks cs) (delta u))

  pub near_score : (vs : List ℕ) (u : ℕ) → score_at es (occurs vs) u ≡ occurs (near bits checks (odds bits checks vs)) u
  unfolding score_at
  near_score vs u = ap (sum_l (checks_of es u)) (fun_ext (λ c. sym (odds_par vs c))) ∙ near_sum (odds bits checks vs) u

  -- the errors after a flip of the bits that stand most often near the odd checks
  abbrev after : List ℕ → List ℕ
  after vs = let all_Near = near bits checks (odds bits checks vs) in toggles (those all_Near (most all_Near all_Near) all_Near) vs

  after_once : (vs : List ℕ) → Once vs → Once (after vs)
  after_once vs once v =
      let all_Near = near bits checks (odds bits checks vs) in
      omega (arith, toggles_occurs (those all_Near (most all_Near all_Near) all_Near) vs once v)

  after_flips : (n k : ℕ) (vs : List ℕ) → Once vs → 0 < most (near bits checks (odds bits checks vs)) (near bits checks (odds bits checks vs))
      → T (all (λ u. ltb u n) (near bits checks (odds bits checks vs))) → Mends es n k (occurs (after vs)) → Mends es n (suc k) (occurs vs)
  after_flips n k vs once some low rest =
      let z = most_at N N some in
      flips top z.0 (occurs (after vs)) some (ltb→lt z.0 n (all_occurs (λ u. ltb u n) N z.0 low z.1)) (near_score vs z.0 ∙ z.2)
      (λ v h. rw (near_score vs v) (bound v (dec_lt 0 (occurs N v)))) (λ v h. rw (near_score vs v) (next v (ℕ_discrete (occurs N v) top))) rest
    where
      N : List ℕ
      N = near bits checks (odds bits checks vs)

      top : ℕ
      top = most N N

      bound : (v : ℕ) → Dec (0 < occurs N v) → occurs N v ≤ top
      bound v (yes h) = most_bound N N v h
      bound v (no h) = omega arith

      next : (v : ℕ) → Dec (occurs N v ≡ top) → occurs (after vs) v ≡ pick (eqb (occurs N v) top) (1 - occurs vs v) (occurs vs v)
      next v (yes e) =
          rw (eq-eqb (occurs N v) top e)
          (omega (arith, toggles_occurs (those N top N) vs once v, those_once N top N v, those_in N top N v (omega arith) e, once v))
      next v (no e) = rw (ne_eqb (occurs N v) top e) (omega (arith, toggles_occurs (those N top N) vs once v, those_out N top N v e, once v))

  -- what the computation says
  pub mends_sound : (n k : ℕ) (vs : List ℕ) → Once vs → T (mends bits checks n k vs) → (j : ℕ) × (j ≤ k) × Mends es n j (occurs vs)
  mends_sound n zero [] once t = (0, omega arith, gone (λ v h. refl))
  mends_sound n zero (x ∷ xs) once t = absurd t
  mends_sound n (suc k) [] once t = (0, omega arith, gone (λ v h. refl))
  mends_sound n (suc k) (x ∷ xs) once t =
      let N = near bits checks (odds bits checks (x ∷ xs)) in
      let t' = both_right (ltb 0 (most N N)) _ t in
      let z = mends_sound n k (after (x ∷ xs)) (after_once (x ∷ xs) once) (both_right (all (λ u. ltb u n) N) _ t') in
      (suc z.0, omega (arith, z.1), after_flips n z.0 (x ∷ xs) once (ltb→lt 0 (most N N) (both_left (ltb 0 (most N N)) _ t)) (both_left (all (λ u. ltb u n) N) _ t') z.2)
