-- Horner's rule for rotations: adding the rows of each offset in turn and rotating what there is left by one, b times, adds each row of
-- circulants rotated right by its offset. Assumes nothing.
use mathlib.Core.Path.{◌≡◌, refl, sym, ap, ap₂, ◌∙◌}
use Prim.Native.Nat.{ℕ, zero, suc, ◌+◌, ◌-◌, ◌*◌, ◌/◌, ◌%◌, ◌<◌}
use native.Mathlib.Nat.{add-zero, sub_self, mod-lt, mod-mod, mod-add-mod}
use native.Mathlib.Omega.{arith}
use lib.Arith.{digits_div, digits_mod}
use Rattle.maths.specs.Sums.{sum_n}
use Rattle.maths.proofs.Sums.{sum_n_ext, sum_n_add, sum_n_zero, sum_n_blocks}
use Rattle.codes.specs.Frames.{parity, adds}
use Rattle.encoder.specs.Rows.{rows_at, blocks_turned}

-- two sums change places
sum_n_swap : (m n : ℕ) (f : ℕ → ℕ → ℕ) → sum_n m (λ i. sum_n n (f i)) ≡ sum_n n (λ j. sum_n m (λ i. f i j))
sum_n_swap zero n f = sym (sum_n_zero n)
sum_n_swap (suc m) n f = ap (λ (x : ℕ). x + sum_n n (f m)) (sum_n_swap m n f) ∙ sym (sum_n_add n (λ j. sum_n m (λ i. f i j)) (f m))

module _ (b rows : ℕ) (G : ℕ → ℕ → ℕ) (d : ℕ → ℕ) where
  -- the parity bits after o offsets
  unfoldable pub stage : ℕ → ℕ → ℕ
  stage zero j = 0
  stage (suc o) j = blocks_turned b (λ i. stage o i + rows_at b G d o rows i) j

  -- the row of offset t, rotated as often as there were offsets from t on
  abbrev turned_row : ℕ → ℕ → ℕ → ℕ
  turned_row o j t = rows_at b G d t rows (j / b * b + (j % b + (o - t)) % b)

  module _ (some : zero < b) where
    -- the bit that stands next in its block
    next : ℕ → ℕ
    next j = j / b * b + (j % b + 1) % b

    turned_more : (o j t : ℕ) → t < suc o → turned_row o (next j) t ≡ turned_row (suc o) j t
    unfolding next
    turned_more o j t h =
        let low : (j % b + 1) % b < b = mod-lt (j % b + 1) some in
        let e : j % b + 1 + (o - t) ≡ j % b + (suc o - t) = omega arith in
        rw (digits_div (j / b) low, digits_mod (j / b) low, mod-add-mod (j % b + 1) b (o - t), e)

    last_row : (o j : ℕ) → turned_row o (next j) o ≡ rows_at b G d o rows (next j)
    unfolding next
    last_row o j =
        let low : (j % b + 1) % b < b = mod-lt (j % b + 1) some in
        rw (digits_div (j / b) low, digits_mod (j / b) low, sub_self o, add-zero ((j % b + 1) % b), mod-mod (j % b + 1) b)

    stage_sum : (o j : ℕ) → stage o j ≡ sum_n o (turned_row o j)
    unfolding stage next
    stage_sum zero j = refl
    stage_sum (suc o) j =
        ap₂ (λ (x y : ℕ). x + y) (stage_sum o (next j)) (sym (last_row o j))
        ∙ sum_n_ext (suc o) (turned_row o (next j)) (turned_row (suc o) j) (λ t h. turned_more o j t h)

    -- the b offsets are the definition's sum
    pub stage_all : (j : ℕ) → stage b j % 2 ≡ parity b (rows * b) G d j
    stage_all j =
        ap (λ (x : ℕ). x % 2)
        (stage_sum b j
        ∙ sum_n_swap b rows (λ t c. d (c * b + t) * G c (j / b * b + (j % b + (b - t)) % b))
        ∙ sum_n_ext rows _ _ (λ c h. sum_n_ext b _ _ (λ t l. rw (digits_div c l, digits_mod c l)))
        ∙ sym (sum_n_blocks rows b (λ i. d i * adds b G i j)))
