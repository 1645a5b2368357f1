-- What a data bit adds is a row of W, so a frame is the data times G = [I | W]. Assumes nothing.
use mathlib.Core.Bool.{Bool, true, false}
use mathlib.Core.Path.{◌≡◌, refl, sym, ap, ◌∙◌}
use Prim.Native.Nat.{ℕ, zero, suc, ◌+◌, ◌-◌, ◌*◌, ◌/◌, ◌%◌, ◌<◌}
use native.Mathlib.Nat.{add-mod_right, mod-lt, mod-mod, mod-add-mod, div-add-mod'}
use native.Mathlib.Omega.{arith}
use lib.Dec.{ltb}
use lib.Arith.{digits_div, digits_mod}
use borrow.Author.Tests.{ltb-true}
use Rattle.maths.specs.Tests.{pick}
use Rattle.maths.specs.Sums.{sum_n}
use Rattle.maths.specs.Ones.{delta}
use Rattle.maths.proofs.Sums.{sum_n_ext}
use Rattle.maths.proofs.Ones.{sum_delta}
use Rattle.codes.specs.Codes.{Known, row_of, circulant_of}
use Rattle.codes.specs.Frames.{adds, parity, frame, generator, frame_of}
use Rattle.matrices.specs.Generators.{row_below, w_entry, systematic, g_entry}
use Rattle.matrices.proofs.Sizes.{sizes}

module _ (b : ℕ) (pos : 0 < b) where
  -- a row that is o below the first is the first turned right by o
  row_below_lem : (r : ℕ → ℕ) (o j : ℕ) → o < b → row_below b r o j ≡ r (j / b * b + (j % b + (b - o)) % b)
  unfolding row_below
  row_below_lem r zero j h =
      let e : b - 0 ≡ b = omega arith in
      rw (e, add-mod_right (j % b) b, mod-mod j b, div-add-mod' j b)
  row_below_lem r (suc o) j h =
      row_below_lem r o (j / b * b + (j % b + (b - 1)) % b) (omega arith)
      ∙ ap (λ (x : ℕ). r (x * b + ((j / b * b + (j % b + (b - 1)) % b) % b + (b - o)) % b)) (digits_div (j / b) low)
      ∙ ap (λ (x : ℕ). r (j / b * b + (x + (b - o)) % b)) (digits_mod (j / b) low)
      ∙ ap (λ (x : ℕ). r (j / b * b + x)) (mod-add-mod (j % b + (b - 1)) b (b - o) ∙ ap (λ (x : ℕ). x % b) e ∙ add-mod_right (j % b + (b - suc o)) b)
    where
      low : (j % b + (b - 1)) % b < b
      low = mod-lt (j % b + (b - 1)) pos

      e : j % b + (b - 1) + (b - o) ≡ j % b + (b - suc o) + b
      e = omega arith

  module _ (G : ℕ → ℕ → ℕ) where
    pub adds_entry : (i j : ℕ) → adds b G i j ≡ w_entry b G i j
    adds_entry i j = sym (row_below_lem (G (i / b)) (i % b) j (mod-lt i pos))

    frame_product : (k : ℕ) (d : ℕ → ℕ) (v : ℕ) → frame b k G d v % 2 ≡ sum_n k (λ i. d i * systematic b k G i v) % 2
    frame_product k d v = go (ltb v k) refl
      where
        go : (x : Bool) → ltb v k ≡ x
            → pick x (d v) (parity b k G d (v - k)) % 2 ≡ sum_n k (λ i. d i * pick x (delta i v) (w_entry b G i (v - k))) % 2
        go true e = ap (λ (x : ℕ). x % 2) (sym (sum_delta d v k (ltb-true v k e)))
        go false e =
            mod-mod (sum_n k (λ i. d i * adds b G i (v - k))) 2
            ∙ ap (λ (x : ℕ). x % 2)
            (sum_n_ext k (λ i. d i * adds b G i (v - k)) (λ i. d i * w_entry b G i (v - k)) (λ i h. ap (λ (x : ℕ). d i * x) (adds_entry i (v - k))))

-- the frame of a code is the data times its G, modulo 2
pub frame_of_product : (code : ℕ) → Known code → (d : ℕ → ℕ) (v : ℕ) → frame_of code d v % 2 ≡ sum_n (row_of code).k (λ i. d i * g_entry code i v) % 2
frame_of_product code known d v = frame_product (circulant_of code) (sizes code known).some (generator code) (row_of code).k d v
