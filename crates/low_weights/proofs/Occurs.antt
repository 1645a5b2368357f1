-- How often a number stands in a list, and a list in which no number stands twice. Assumes nothing.
use mathlib.Core.Bool.{Bool, true, false}
use mathlib.Core.Logic.{◌≢◌}
use mathlib.Core.Path.{◌≡◌, refl, sym, ap, ◌∙◌, fun_ext}
use mathlib.Core.List.{List, [], ◌∷◌}
use Prim.Native.Nat.{ℕ, ◌+◌, ◌%◌, ◌≤◌, ◌<◌}
use native.Mathlib.Decide.{ℕ_discrete}
use native.Mathlib.Omega.{arith}
use lib.Dec.{eqb}
use lib.ListN.{length}
use borrow.Author.Tests.{eqb-true, eqb-false}
use Rattle.maths.specs.Sums.{sum_l}
use Rattle.maths.specs.Ones.{delta}
use Rattle.maths.proofs.Sums.{sum_l_add, sum_l_zero}
use Rattle.maths.proofs.Ones.{delta_low, delta_self, delta_other, delta_swap}

abbrev pub occurs : List ℕ → ℕ → ℕ
occurs vs c = sum_l vs (delta c)

-- no number stands twice
abbrev pub Once : List ℕ → Type 0
Once vs = (c : ℕ) → occurs vs c < 2

-- a number is at most one of two that differ
pub delta_apart : (x y c : ℕ) → x ≢ y → delta c x + delta c y < 2
delta_apart x y c ne = go (ℕ_discrete x c)
  where
    go : Dec (x ≡ c) → delta c x + delta c y < 2
    go (yes e) = omega (arith, delta_low c x, delta_other c y (λ q. ne (e ∙ sym q)))
    go (no e) = omega (arith, delta_low c y, delta_other c x e)

-- as many terms as there are numbers, where each term is at least the number of its occurrences
pub length_below : (vs : List ℕ) (f : ℕ → ℕ) → ((c : ℕ) → occurs vs c ≤ f c) → length vs ≤ sum_l vs f
length_below [] f h = omega arith
length_below (v ∷ vs) f h = omega (arith, h v, delta_self v, length_below vs f (λ c. omega (arith, h c)))

-- of a list only as many numbers stand in one where none stands twice as it has
pub occurs_within : (vs us : List ℕ) → Once vs → sum_l vs (occurs us) ≤ length us
occurs_within vs [] once = omega (arith, sum_l_zero vs)
occurs_within vs (u ∷ us) once =
    let here = ap (sum_l vs) (fun_ext (λ c. delta_swap c u)) in
    omega (arith, sum_l_add vs (λ c. delta c u) (occurs us), here, once u, occurs_within vs us once)

-- ---- a number taken out of a list, or put at its end
abbrev pub toggle : ℕ → List ℕ → List ℕ
toggle c [] = c ∷ []
toggle c (x ∷ xs) = elim (eqb x c) [ true ↦ xs | false ↦ x ∷ toggle c xs ]

abbrev pub toggles : List ℕ → List ℕ → List ℕ
toggles [] vs = vs
toggles (c ∷ cs) vs = toggles cs (toggle c vs)

toggle_occurs : (c : ℕ) (vs : List ℕ) → Once vs → (y : ℕ) → occurs (toggle c vs) y ≡ (occurs vs y + delta y c) % 2
toggle_occurs c [] once y = omega (arith, delta_low y c)
toggle_occurs c (x ∷ xs) once y = go (eqb x c) refl (toggle_occurs c xs (λ z. omega (arith, once z)) y)
  where
    go : (b : Bool) → eqb x c ≡ b → occurs (toggle c xs) y ≡ (occurs xs y + delta y c) % 2
        → occurs (elim b [ true ↦ xs | false ↦ x ∷ toggle c xs ]) y ≡ (delta y x + occurs xs y + delta y c) % 2
    go true e ih = omega (arith, once y, ap (delta y) (eqb-true x c e))
    go false e ih = omega (arith, once y, delta_apart x c y (eqb-false x c e))

pub toggles_occurs : (cs vs : List ℕ) → Once vs → (y : ℕ) → occurs (toggles cs vs) y ≡ (occurs vs y + occurs cs y) % 2
toggles_occurs [] vs once y = omega (arith, once y)
toggles_occurs (c ∷ cs) vs once y =
    omega (arith, toggle_occurs c vs once y, toggles_occurs cs (toggle c vs) (λ z. omega (arith, toggle_occurs c vs once z)) y)
