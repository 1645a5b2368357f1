-- Numbers as a block of m and a place in it. Assumes nothing.
use mathlib.Core.Bool.{Bool, true, false}
use mathlib.Core.Path.{◌≡◌, refl, sym, ap, ap₂, ◌∙◌}
use Prim.Native.Nat.{ℕ, ◌+◌, ◌*◌, ◌/◌, ◌%◌, ◌<◌}
use borrow.Author.Tests.{eqb-true, eqb-false, eq-eqb, ne_eqb}
use lib.Arith.{digits_div, digits_mod}
use lib.Dec.{eqb}
use Rattle.maths.specs.Tests.{both}

-- two numbers are equal where block and place are
pub digits_eqb : (m p q : ℕ) {s t : ℕ} → s < m → t < m → eqb (p * m + s) (q * m + t) ≡ both (eqb p q) (eqb s t)
digits_eqb m p q {s} {t} hs ht = go (eqb p q) refl (eqb s t) refl
  where
    go : (x : Bool) → eqb p q ≡ x → (y : Bool) → eqb s t ≡ y → eqb (p * m + s) (q * m + t) ≡ both x y
    go true e true f =
        eq-eqb (p * m + s) (q * m + t) (ap₂ (λ (i j : ℕ). i * m + j) (eqb-true p q e) (eqb-true s t f))
    go true e false f =
        ne_eqb (p * m + s) (q * m + t) (λ z. eqb-false s t f (sym (digits_mod p hs) ∙ ap (λ (n : ℕ). n % m) z ∙ digits_mod q ht))
    go false e y f =
        ne_eqb (p * m + s) (q * m + t) (λ z. eqb-false p q e (sym (digits_div p hs) ∙ ap (λ (n : ℕ). n / m) z ∙ digits_div q ht))
