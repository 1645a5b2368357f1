-- Tests: choosing by one, joining two, and one that is asked of every element or of every number below a bound; and what is no test at all. Assumes nothing.
use Rattle.std.specs.Prelude.{Bool, true, false, List, [], ◌∷◌, ◌≡◌, ℕ, zero, suc, T}

-- the one of two that a test picks
abbrev pub pick {ℓ} : {A : Type ℓ} → Bool → A → A → A
pick true a b = a
pick false a b = b

abbrev pub both : Bool → Bool → Bool
both true b = b
both false b = false

-- the test holds of every element
abbrev pub all : {A : Type 0} → (A → Bool) → List A → Bool
all f [] = true
all f (x ∷ xs) = both (f x) (all f xs)

-- the test holds of every number below n
abbrev pub below : ℕ → (ℕ → Bool) → Bool
below zero f = true
below (suc n) f = both (f n) (below n f)

-- a test r tells exactly whether P is so
pub record Agrees (r : Bool) (P : Type 0) : Type 0 where
  pub sound : r ≡ true → P
  pub complete : P → r ≡ true

-- what holds of whatever it is asked of
abbrev pub Anything : {A : Type 0} → A → Type 0
Anything x = T true
