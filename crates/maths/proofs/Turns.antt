-- Turning a block of b numbers: x goes to (x + e) % b. Assumes nothing.
use mathlib.Core.Path.{◌≡◌, refl, sym, ap, ap₂, ◌∙◌}
use Prim.Native.Nat.{ℕ, zero, suc, ◌+◌, ◌-◌, ◌*◌, ◌/◌, ◌%◌, ◌<◌}
use native.Mathlib.Nat.{add-zero, add_comm, add_assoc, suc-mul, mod-lt, mod-eq_of_lt, mod_self, mod-add-mod, add-mod-mod, add-mul-mod_self_right, div-add-mod'}
use native.Mathlib.Numerals.{add-one}
use native.Mathlib.Decide.{ℕ_discrete}
use native.Mathlib.Omega.{arith}
use borrow.Author.Tests.{eq-eqb, ne_eqb}
use lib.Dec.{eqb}
use Rattle.maths.specs.Sums.{sum_n}
use Rattle.maths.proofs.Sums.{sum_n_ext, sum_n_front}

pub turn_self : (b o : ℕ) → o < b → (o + (b - o)) % b ≡ 0
turn_self b o ho =
    let e : o + (b - o) ≡ b = omega arith in
    rw e (mod_self b)

-- a sum turned, and one of its terms turned
pub turn_term : (b x y e : ℕ) → ((x + y) % b + e) % b ≡ (x + (y + e) % b) % b
turn_term b x y e = mod-add-mod (x + y) b e ∙ ap (λ (n : ℕ). n % b) (add_assoc x y e) ∙ sym (add-mod-mod x (y + e) b)

pub turn_back : (b x e : ℕ) → 0 < b → ((x + e) % b + (b - e % b)) % b ≡ x % b
turn_back b x e pos =
    let r : e % b < b = mod-lt e pos in
    let s : x + e + (b - e % b) ≡ x + suc (e / b) * b = omega (arith, suc-mul (e / b) b, div-add-mod' e b) in
    mod-add-mod (x + e) b (b - e % b) ∙ ap (λ (n : ℕ). n % b) s ∙ add-mul-mod_self_right x (suc (e / b)) b

-- what is turned alike was alike
pub turn_alike : (b x y e : ℕ) → 0 < b → (x + e) % b ≡ (y + e) % b → x % b ≡ y % b
turn_alike b x y e pos q = sym (turn_back b x e pos) ∙ ap (λ (n : ℕ). (n + (b - e % b)) % b) q ∙ turn_back b y e pos

pub turn_inj : (b x y e : ℕ) → x < b → y < b → (x + e) % b ≡ (y + e) % b → x ≡ y
turn_inj b x y e hx hy q = sym (mod-eq_of_lt hx) ∙ turn_alike b x y e (omega arith) q ∙ mod-eq_of_lt hy

pub turn_eqb : (b x y e : ℕ) → x < b → y < b → eqb ((x + e) % b) ((y + e) % b) ≡ eqb x y
turn_eqb b x y e hx hy = go (ℕ_discrete x y)
  where
    go : Dec (x ≡ y) → eqb ((x + e) % b) ((y + e) % b) ≡ eqb x y
    go (yes p) = rw (p, eq-eqb y y refl, eq-eqb ((y + e) % b) ((y + e) % b) refl)
    go (no p) = rw (ne_eqb ((x + e) % b) ((y + e) % b) (λ q. p (turn_inj b x y e hx hy q)), ne_eqb x y p)

-- a turned sum is the sum
turn_one : (b : ℕ) (f : ℕ → ℕ) → sum_n b (λ t. f ((t + 1) % b)) ≡ sum_n b f
turn_one zero f = refl
turn_one (suc n) f =
    ap₂ (λ (x y : ℕ). x + y)
    (sum_n_ext n (λ t. f ((t + 1) % suc n)) (λ t. f (suc t)) (λ t h. ap f (mod-eq_of_lt {n = t + 1} {m = suc n} (omega arith) ∙ add-one t)))
    (ap f (ap (λ (x : ℕ). x % suc n) (add-one n) ∙ mod_self (suc n)))
    ∙ sym (sum_n_front n f)

pub sum_n_turn : (b e : ℕ) (f : ℕ → ℕ) → sum_n b (λ t. f ((t + e) % b)) ≡ sum_n b f
sum_n_turn b zero f = sum_n_ext b (λ t. f ((t + 0) % b)) f (λ t h. ap f (ap (λ (x : ℕ). x % b) (add-zero t) ∙ mod-eq_of_lt h))
sum_n_turn b (suc e) f =
    sum_n_ext b (λ t. f ((t + suc e) % b)) (λ t. f (((t + 1) % b + e) % b))
    (λ t h. ap f (sym (mod-add-mod (t + 1) b e ∙ ap (λ (x : ℕ). x % b) (add_assoc t 1 e ∙ ap (λ (x : ℕ). t + x) (add_comm 1 e ∙ add-one e)))))
    ∙ turn_one b (λ t. f ((t + e) % b)) ∙ sum_n_turn b e f
