-- Laws of the distance of two byte strings. Assumes nothing.
use mathlib.Core.Bool.{Bool, true, false}
use mathlib.Core.Path.{◌≡◌, refl, sym, ap, ◌∙◌}
use mathlib.Core.List.{List}
use Prim.Native.Nat.{ℕ, zero, suc, ◌+◌, ◌*◌, ◌%◌, ◌<◌}
use native.Mathlib.Decide.{ℕ_discrete}
use native.Mathlib.Omega.{arith}
use lib.Dec.{T, eqb, ltb}
use lib.ListN.{length}
use borrow.Author.Tests.{eq-eqb, ne_eqb}
use Rattle.maths.specs.Tests.{pick, all}
use Rattle.maths.specs.Sums.{sum_n, sum_l}
use Rattle.maths.specs.Bits.{bit_at}
use Rattle.maths.specs.Ones.{delta}
use Rattle.maths.specs.Bytes.{Bytes}
use Rattle.maths.specs.Distance.{unequal, distance, places}
use Rattle.maths.proofs.Sums.{sum_n_ext, sum_n_zero}
use Rattle.maths.proofs.Ones.{length_ones, ones_below, ones_at}
use Rattle.maths.proofs.Bytes.{bit_at_low, bits_same}

-- ---- where two words differ
pub unequal_low : (f g : ℕ → ℕ) (v : ℕ) → unequal f g v < 2
unequal_low f g v = go (eqb (f v) (g v))
  where
    go : (x : Bool) → pick {A = ℕ} x 0 1 < 2
    go true = omega arith
    go false = omega arith

pub unequal_none : (f g : ℕ → ℕ) (v : ℕ) → f v ≡ g v → unequal f g v ≡ 0
unequal_none f g v e = rw (eq-eqb (f v) (g v) e)

pub unequal_zero : (f g : ℕ → ℕ) (v : ℕ) → unequal f g v ≡ 0 → f v ≡ g v
unequal_zero f g v e = go (ℕ_discrete (f v) (g v)) e
  where
    go : Dec (f v ≡ g v) → unequal f g v ≡ 0 → f v ≡ g v
    go (yes p) e = p
    go (no p) e = absurd (let q : ◌≡◌ {A = ℕ} 1 0 = rw (ne_eqb (f v) (g v) p) at e in omega arith)

pub unequal_sym : (f g : ℕ → ℕ) (v : ℕ) → unequal f g v ≡ unequal g f v
unequal_sym f g v = go (ℕ_discrete (f v) (g v))
  where
    go : Dec (f v ≡ g v) → unequal f g v ≡ unequal g f v
    go (yes p) = rw p
    go (no p) = rw (ne_eqb (f v) (g v) p, ne_eqb (g v) (f v) (λ q. p (sym q)))

-- of words of bits, one is the other with what differs added
pub unequal_add : (f g : ℕ → ℕ) → ((v : ℕ) → f v < 2) → ((v : ℕ) → g v < 2) → (v : ℕ) → g v ≡ (f v + unequal f g v) % 2
unequal_add f g hf hg v = go (ℕ_discrete (f v) (g v))
  where
    go : Dec (f v ≡ g v) → g v ≡ (f v + unequal f g v) % 2
    go (yes p) = rw (eq-eqb (f v) (g v) p) (omega (arith, hg v))
    go (no p) = rw (ne_eqb (f v) (g v) p) (omega (arith, hf v, hg v))

sum_none : (n : ℕ) (f : ℕ → ℕ) → sum_n n f ≡ 0 → (v : ℕ) → v < n → f v ≡ 0
sum_none zero f e v h = absurd (omega arith)
sum_none (suc n) f e v h = go (ℕ_discrete v n) (sum_none n f (omega arith) v)
  where
    go : Dec (v ≡ n) → (v < n → f v ≡ 0) → f v ≡ 0
    go (yes p) ih = rw p (omega arith)
    go (no p) ih = ih (omega arith)

-- ---- the distance
module _ (s t : List ℕ) (len : length s ≡ length t) where
  pub distance_sym : distance s t ≡ distance t s
  unfolding distance
  distance_sym =
      rw (← len) (sum_n_ext (8 * length s) (unequal (bit_at s) (bit_at t)) (unequal (bit_at t) (bit_at s)) (λ v h. unequal_sym (bit_at s) (bit_at t) v))

  pub distance_zero : Bytes s → Bytes t → distance s t ≡ 0 → s ≡ t
  unfolding distance
  distance_zero hs ht e =
      bits_same s t len hs ht (λ v h.
      unequal_zero (bit_at s) (bit_at t) v (sum_none (8 * length s) (unequal (bit_at s) (bit_at t)) e v (omega arith)))

pub distance_self : (s : List ℕ) → distance s s ≡ 0
unfolding distance
distance_self s = sum_n_ext (8 * length s) (unequal (bit_at s) (bit_at s)) (λ v. 0) (λ v h. unequal_none (bit_at s) (bit_at s) v refl) ∙ sum_n_zero (8 * length s)

-- the strings differ at as many places as their distance says, and at no others
pub length_places : (s t : List ℕ) → length (places s t) ≡ distance s t
unfolding places distance
length_places s t = length_ones (unequal (bit_at s) (bit_at t)) (unequal_low (bit_at s) (bit_at t)) (8 * length s)

pub places_below : (s t : List ℕ) → T (all (λ v. ltb v (8 * length s)) (places s t))
unfolding places
places_below s t = ones_below (8 * length s) (8 * length s) (unequal (bit_at s) (bit_at t)) (omega arith)

pub places_flip : (s t : List ℕ) (v : ℕ) → v < 8 * length s → bit_at t v ≡ (bit_at s v + sum_l (places s t) (λ x. delta x v)) % 2
unfolding places
places_flip s t v h =
    unequal_add (bit_at s) (bit_at t) (bit_at_low s) (bit_at_low t) v
    ∙ ap (λ (x : ℕ). (bit_at s v + x) % 2) (ones_at (unequal (bit_at s) (bit_at t)) (unequal_low (bit_at s) (bit_at t)) (8 * length s) v h)
