-- Sums of natural numbers, and evenness. A word is a function from bit number to number; words are added as natural numbers, and only the end
-- of an argument asks whether a sum is even. Assumes nothing.
use Rattle.std.specs.Prelude.{List, [], ◌∷◌, ◌≡◌, ℕ, zero, suc, ◌+◌, ◌%◌}

-- the sum of w over a list of places, each as often as it stands there
abbrev pub sum_l : List ℕ → (ℕ → ℕ) → ℕ
sum_l [] w = 0
sum_l (v ∷ vs) w = w v + sum_l vs w

-- the sum of f over 0, .., n - 1
abbrev pub sum_n : ℕ → (ℕ → ℕ) → ℕ
sum_n zero f = 0
sum_n (suc n) f = sum_n n f + f n

abbrev pub Even : ℕ → Type 0
Even n = n % 2 ≡ 0
