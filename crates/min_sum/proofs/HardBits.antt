-- Hard bits in bytes, on numbers as the machine has them. Assumes nothing.
use mathlib.Core.Path.{◌≡◌, sym, ◌∙◌}
use mathlib.Core.List.{List}
use Prim.Native.Nat.{ℕ, ◌+◌, ◌-◌, ◌*◌, ◌/◌, ◌%◌, ◌^◌, ◌≤◌, ◌<◌}
use native.Mathlib.Nat.{add-zero}
use native.Mathlib.Omega.{arith}
use borrow.Author.Rules.{rules}
use borrow.Author.Tests.{lt-ltb, le-ltb}
use lib.IntN.{ℤ}
use lib.Signed.{mag}
use lib.ListN.{length, get_or}
use mir.Syntax.{Width}
use mir.Val.{hbits, to_z, of_z}
use Rattle.maths.specs.Tests.{pick}
use Rattle.maths.specs.Sums.{sum_n}
use Rattle.maths.specs.Bytes.{byte, pack}
use Rattle.min_sum.specs.Confidence.{Confidence}
use Rattle.min_sum.specs.MinSum.{hard_bits}
use Rattle.min_sum.specs.Hard.{packed}
use Rattle.min_sum.proofs.Signed.{back}
use Rattle.maths.proofs.Writing.{written_in}
use Rattle.min_sum.proofs.Packed.{byte_halves}
use Rattle.min_sum.proofs.Loops.{packed_none, packed_more, packed_all}

-- the number that the machine reads back
abbrev pub read : Width → ℤ → ℤ
read w z = to_z w (of_z w z)

abbrev pub Low : Width → ℤ → Type 0
Low w z = mag z < 2 ^ hbits w

-- the bits of four numbers
abbrev Bit : Confidence ℤ → Width → ℤ → ℕ → Type 0
Bit o w z b = (b ≡ pick (o.hard (read w z)) 1 0) × (b < 2)

pub nibble : (w : Width) (o : Confidence ℤ) (xs : List ℤ) (a b₀ b₁ b₂ b₃ : ℕ)
    → Bit o w (get_or xs a o.zero) b₀ → Bit o w (get_or xs (a + 1) o.zero) b₁ → Bit o w (get_or xs (a + 2) o.zero) b₂ → Bit o w (get_or xs (a + 3) o.zero) b₃
    → Low w (get_or xs a o.zero) → Low w (get_or xs (a + 1) o.zero) → Low w (get_or xs (a + 2) o.zero) → Low w (get_or xs (a + 3) o.zero)
    → 8 * b₀ + 4 * b₁ + 2 * b₂ + b₃ ≡ sum_n 4 (λ t. hard_bits o xs (a + t) % 2 * 2 ^ (3 - t))
nibble w o xs a b₀ b₁ b₂ b₃ e₀ e₁ e₂ e₃ k₀ k₁ k₂ k₃ =
    let f₀ : b₀ ≡ hard_bits o xs (a + 0) = e₀.0 ∙ rw (back w (get_or xs a o.zero) k₀, add-zero a) in
    let f₁ : b₁ ≡ hard_bits o xs (a + 1) = e₁.0 ∙ rw (back w (get_or xs (a + 1) o.zero) k₁) in
    let f₂ : b₂ ≡ hard_bits o xs (a + 2) = e₂.0 ∙ rw (back w (get_or xs (a + 2) o.zero) k₂) in
    let f₃ : b₃ ≡ hard_bits o xs (a + 3) = e₃.0 ∙ rw (back w (get_or xs (a + 3) o.zero) k₃) in
    omega (arith, e₀.1, e₁.1, e₂.1, e₃.1)

pub halves : (f : ℕ → ℕ) (a b₀ b₁ : ℕ) → (b₀ ≡ sum_n 4 (λ t. f (a + t) % 2 * 2 ^ (3 - t))) × (b₀ < 16) → (b₁ ≡ sum_n 4 (λ t. f (a + 4 + t) % 2 * 2 ^ (3 - t))) × (b₁ < 16)
    → 16 * b₀ + b₁ ≡ byte (λ t. f (a + t)) 0
halves f a b₀ b₁ p q = rw (p.0, q.0) (sym (byte_halves f a))

-- ---- a buffer that is packed, or left where there are too few numbers
module _ {C : Type 0} (o : Confidence C) (xs : List C) (old : List ℕ) where
  pub too_few : length xs / 8 < length old → old ≡ packed o xs old
  too_few h = rw (lt-ltb (length xs / 8) (length old) h)

  pub enough : length old ≤ length xs / 8 → packed o xs old ≡ pack (hard_bits o xs) (length old)
  enough h = rw (le-ltb (length xs / 8) (length old) h)

  pub enough_packed : (out : List ℕ) → out ≡ pack (hard_bits o xs) (length old) → length old ≤ length xs / 8 → out ≡ packed o xs old
  enough_packed out e h = e ∙ sym (enough h)

pub ruleset packs = (nibble, halves, packed_none, packed_more, packed_all, written_in, too_few, enough_packed, rules)
