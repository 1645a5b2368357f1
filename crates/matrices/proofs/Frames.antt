-- Laws of frames: the data stands in front, and the frame of a sum is the sum of the frames, modulo 2. Assumes nothing.
use mathlib.Core.Bool.{Bool, true, false}
use mathlib.Core.Logic.{◌≢◌}
use mathlib.Core.Path.{◌≡◌, refl, sym, ap, ◌∙◌}
use Prim.Native.Nat.{ℕ, ◌+◌, ◌-◌, ◌*◌, ◌%◌, ◌<◌}
use native.Mathlib.Nat.{add-mul}
use native.Mathlib.Omega.{arith}
use lib.Dec.{ltb}
use borrow.Author.Tests.{lt-ltb, ltb-true}
use Rattle.maths.specs.Tests.{pick}
use Rattle.maths.specs.Sums.{sum_n}
use Rattle.maths.proofs.Sums.{mul_mod, sum_n_ext, sum_n_mod, sum_n_add}
use Rattle.codes.specs.Codes.{row_of, circulant_of}
use Rattle.codes.specs.Frames.{adds, generator, parity_of, frame_of}

module _ (code : ℕ) where
  -- the first k bits of a frame are the data
  pub frame_data : (d : ℕ → ℕ) (v : ℕ) → v < (row_of code).k → frame_of code d v ≡ d v
  frame_data d v h = rw (lt-ltb v (row_of code).k h)

  -- frames of different data differ where the data does
  pub frame_apart : (d d' : ℕ → ℕ) (v : ℕ) → v < (row_of code).k → d v ≢ d' v → frame_of code d v ≢ frame_of code d' v
  frame_apart d d' v h ne e = ne (sym (frame_data d v h) ∙ e ∙ frame_data d' v h)

  -- the frame of the sum of two data words is the sum of their frames, modulo 2
  pub frame_sum : (d d' e : ℕ → ℕ) → ((i : ℕ) → i < (row_of code).k → e i % 2 ≡ (d i + d' i) % 2)
      → (v : ℕ) → frame_of code e v % 2 ≡ (frame_of code d v + frame_of code d' v) % 2
  frame_sum d d' e same v = go (ltb v k) refl
    where
      k : ℕ
      k = (row_of code).k

      row : ℕ → ℕ
      row i = adds (circulant_of code) (generator code) i (v - k)

      rows : sum_n k (λ i. e i * row i) % 2 ≡ (sum_n k (λ i. d i * row i) + sum_n k (λ i. d' i * row i)) % 2
      rows =
          sum_n_mod k (λ i. e i * row i) (λ i. (d i + d' i) * row i) (λ i h. mul_mod (e i) (d i + d' i) (row i) (same i h))
          ∙ ap (λ (x : ℕ). x % 2)
          (sum_n_ext k (λ i. (d i + d' i) * row i) (λ i. d i * row i + d' i * row i) (λ i h. add-mul (d i) (d' i) (row i))
          ∙ sum_n_add k (λ i. d i * row i) (λ i. d' i * row i))

      go : (x : Bool) → ltb v k ≡ x
          → pick x (e v) (parity_of code e (v - k)) % 2 ≡ (pick x (d v) (parity_of code d (v - k)) + pick x (d' v) (parity_of code d' (v - k))) % 2
      go true h = same v (ltb-true v k h)
      go false h = omega (arith, rows)
