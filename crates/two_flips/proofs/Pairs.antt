-- The scores of two errors, from those of each: which of them bit flipping takes away. Assumes nothing.
use mathlib.Core.Logic.{◌≢◌}
use mathlib.Core.List.{List}
use mathlib.Core.Path.{◌≡◌, refl, sym, ap, ap₂, ◌∙◌, fun_ext}
use Prim.Native.Nat.{ℕ, zero, suc, ◌+◌, ◌-◌, ◌*◌, ◌%◌, ◌≤◌, ◌<◌}
use native.Mathlib.Nat.{mul-zero, zero-mul, mul-one, one-mul, add-mul, mul-le-mul_right}
use native.Mathlib.Decide.{ℕ_discrete}
use native.Mathlib.Omega.{arith}
use lib.Dec.{eqb}
use borrow.Author.Tests.{eq-eqb, ne_eqb}
use Rattle.maths.specs.Tests.{pick}
use Rattle.maths.specs.Sums.{sum_n}
use Rattle.maths.specs.Ones.{delta}
use Rattle.maths.proofs.Sums.{sum_n_ext, sum_n_le, sum_n_add}
use Rattle.maths.proofs.Ones.{delta_self, delta_other, sum_all}
use Rattle.codes.specs.Edges.{Edge}
use Rattle.codes.specs.Equations.{checks_of, par}
use Rattle.matrices.specs.Counts.{count}
use Rattle.matrices.proofs.Edges.{Ranged, par_add, count_par}
use Rattle.two_flips.specs.Clear.{Clear}
use Rattle.two_flips.specs.Flips.{degree}
use Rattle.two_flips.proofs.Scores.{score_at, checks_count, score_sum}
use Rattle.two_flips.proofs.Mends.{Mends, gone, flips, clear_mends}

-- ---- numbers of edges at one check
term_most : (p q c : ℕ) → (p + q) % 2 * c ≤ p % 2 * c + q % 2 * c
term_most p q c =
    let h : (p + q) % 2 ≤ p % 2 + q % 2 = omega arith in
    omega (arith, mul-le-mul_right c h, add-mul (p % 2) (q % 2) c)

term_own : (p q : ℕ) → p ≤ 1 → (p + q) % 2 * p + q % 2 * p ≡ p % 2 * p
term_own zero q h = omega (arith, mul-zero ((0 + q) % 2), mul-zero (q % 2))
term_own (suc zero) q h = omega (arith, mul-one ((1 + q) % 2), mul-one (q % 2))
term_own (suc (suc p)) q h = absurd (omega arith)

term_swap : (p q : ℕ) → p ≤ 1 → q ≤ 1 → p % 2 * q ≡ q % 2 * p
term_swap zero q h k = omega (arith, zero-mul q, mul-zero (q % 2))
term_swap (suc zero) q h k = omega (arith, one-mul q, mul-one (q % 2))
term_swap (suc (suc p)) q h k = absurd (omega arith)

abbrev pub pair : ℕ → ℕ → ℕ → ℕ
pair x y v = delta x v + delta y v

-- edges of which no two join the same check and bit
module _ (es : List Edge) (m n : ℕ) (ranged : Ranged m n es) (once : (a v : ℕ) → count es a v ≤ 1) where
  -- how many checks x and u share
  abbrev shared : ℕ → ℕ → ℕ
  shared x u = score_at es (delta x) u

  shared_sum : (x u : ℕ) → shared x u ≡ sum_n m (λ a. count es a x % 2 * count es a u)
  shared_sum x u =
      score_sum m n es ranged (delta x) u
      ∙ sum_n_ext m _ _ (λ a h. ap (λ (c : ℕ). c % 2 * count es a u) (sym (count_par es a x)))

  pub shared_swap : (x u : ℕ) → shared x u ≡ shared u x
  shared_swap x u =
      shared_sum x u ∙ sum_n_ext m _ _ (λ a h. term_swap (count es a x) (count es a u) (once a x) (once a u)) ∙ sym (shared_sum u x)

  -- a bit alone has all its edges to odd checks
  pub own : (x : ℕ) → shared x x ≡ degree es x
  unfolding score_at
  own x = sum_all (checks_of es x) (λ a. par es (delta x) a % 2) (λ a h. omega (arith, checks_count es a x, once a x, count_par es a x))

  pair_sum : (x y u : ℕ) → score_at es (pair x y) u ≡ sum_n m (λ a. (count es a x + count es a y) % 2 * count es a u)
  pair_sum x y u =
      score_sum m n es ranged (pair x y) u
      ∙ sum_n_ext m _ _ (λ a h. ap (λ (c : ℕ). c % 2 * count es a u) (par_add es (delta x) (delta y) a ∙ ap₂ (λ (p q : ℕ). p + q) (sym (count_par es a x)) (sym (count_par es a y))))

  -- no bit has more than it has from each
  pair_most : (x y u : ℕ) → score_at es (pair x y) u ≤ shared x u + shared y u
  pair_most x y u =
      omega (
        arith,
        pair_sum x y u,
        shared_sum x u,
        shared_sum y u,
        sum_n_add m (λ a. count es a x % 2 * count es a u) (λ a. count es a y % 2 * count es a u),
        sum_n_le m (λ a. (count es a x + count es a y) % 2 * count es a u) (λ a. count es a x % 2 * count es a u + count es a y % 2 * count es a u)
            (λ a h. term_most (count es a x) (count es a y) (count es a u)),
      )

  -- each of the two loses what they share
  pair_own : (x y : ℕ) → score_at es (pair x y) x + shared y x ≡ shared x x
  pair_own x y =
      omega (
        arith,
        pair_sum x y x,
        shared_sum y x,
        shared_sum x x,
        sum_n_add m (λ a. (count es a x + count es a y) % 2 * count es a x) (λ a. count es a y % 2 * count es a x),
        sum_n_ext m (λ a. (count es a x + count es a y) % 2 * count es a x + count es a y % 2 * count es a x) (λ a. count es a x % 2 * count es a x)
            (λ a h. term_own (count es a x) (count es a y) (once a x)),
      )

  pub pair_swap : (x y : ℕ) → pair x y ≡ pair y x
  pair_swap x y = fun_ext (λ v. omega arith)

  pair_other : (x y : ℕ) → score_at es (pair x y) y + shared x y ≡ shared y y
  pair_other x y = rw (pair_swap x y) (pair_own y x)

  module _ (x y : ℕ) (hx : x < n) (hy : y < n) (ne : x ≢ y)
      (few_x : (u : ℕ) → u ≢ x → shared x u ≤ 1) (few_y : (u : ℕ) → u ≢ y → shared y u ≤ 1) where
    others : (u : ℕ) → u ≢ x → u ≢ y → score_at es (pair x y) u ≤ 2
    others u p q = omega (arith, pair_most x y u, few_x u p, few_y u q)

    -- both have the largest score
    pub both_mend : shared x x ≡ shared y y → 2 + shared x y < shared x x → Mends es n 1 (pair x y)
    both_mend same large =
        flips top x (λ v. 0) (omega (arith, two)) hx refl (λ v h. bound v (ℕ_discrete v x) (ℕ_discrete v y)) (λ v h. next v (ℕ_discrete v x) (ℕ_discrete v y)) (gone (λ v h. refl))
      where
        top : ℕ
        top = score_at es (pair x y) x

        two : 2 < score_at es (pair x y) x
        two = omega (arith, pair_own x y, shared_swap x y)

        alike : score_at es (pair x y) y ≡ score_at es (pair x y) x
        alike = omega (arith, pair_own x y, pair_other x y, shared_swap x y)

        bound : (v : ℕ) → Dec (v ≡ x) → Dec (v ≡ y) → score_at es (pair x y) v ≤ score_at es (pair x y) x
        bound v (yes e) d = rw e (omega arith)
        bound v (no e) (yes f) = rw f (omega (arith, alike))
        bound v (no e) (no f) = omega (arith, others v e f, two)

        next : (v : ℕ) → Dec (v ≡ x) → Dec (v ≡ y) → 0 ≡ pick (eqb (score_at es (pair x y) v) top) (1 - pair x y v) (pair x y v)
        next v (yes e) d = rw (e, eq-eqb (score_at es (pair x y) x) (score_at es (pair x y) x) refl) (omega (arith, delta_self x))
        next v (no e) (yes f) = rw (f, eq-eqb (score_at es (pair x y) y) (score_at es (pair x y) x) alike) (omega (arith, delta_self y))
        next v (no e) (no f) =
            rw (ne_eqb (score_at es (pair x y) v) (score_at es (pair x y) x) (λ q. omega (arith, others v e f, two))) (omega (arith, delta_other x v e, delta_other y v f))

    -- x alone has it, and then y
    pub first_mends : shared y y < shared x x → 3 < shared x x → Clear es n y → Mends es n 2 (pair x y)
    first_mends less large clear =
        flips top x (delta y) (omega (arith, two)) hx refl (λ v h. bound v (ℕ_discrete v x) (ℕ_discrete v y)) (λ v h. next v (ℕ_discrete v x) (ℕ_discrete v y)) (clear_mends es n y hy clear)
      where
        top : ℕ
        top = score_at es (pair x y) x

        two : 2 < score_at es (pair x y) x
        two = omega (arith, pair_own x y, few_y x ne)

        behind : score_at es (pair x y) y < score_at es (pair x y) x
        behind = omega (arith, pair_own x y, pair_other x y, shared_swap x y)

        bound : (v : ℕ) → Dec (v ≡ x) → Dec (v ≡ y) → score_at es (pair x y) v ≤ score_at es (pair x y) x
        bound v (yes e) d = rw e (omega arith)
        bound v (no e) (yes f) = rw f (omega (arith, behind))
        bound v (no e) (no f) = omega (arith, others v e f, two)

        next : (v : ℕ) → Dec (v ≡ x) → Dec (v ≡ y) → delta y v ≡ pick (eqb (score_at es (pair x y) v) top) (1 - pair x y v) (pair x y v)
        next v (yes e) d = rw (e, eq-eqb (score_at es (pair x y) x) (score_at es (pair x y) x) refl) (omega (arith, delta_self x, delta_other y x ne))
        next v (no e) (yes f) =
            rw (f, ne_eqb (score_at es (pair x y) y) (score_at es (pair x y) x) (λ q. omega (arith, behind))) (omega (arith, delta_self y, delta_other x y (λ q. ne (sym q))))
        next v (no e) (no f) =
            rw (ne_eqb (score_at es (pair x y) v) (score_at es (pair x y) x) (λ q. omega (arith, others v e f, two))) (omega (arith, delta_other x v e))
