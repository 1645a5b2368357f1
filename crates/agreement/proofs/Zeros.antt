-- The zero word: it meets every equation, and is the frame of zero data. Assumes nothing.
use mathlib.Core.Path.{◌≡◌, ap, ◌∙◌, fun_ext}
use Prim.Native.Nat.{ℕ, ◌+◌, ◌-◌, ◌*◌, ◌/◌, ◌%◌, ◌^◌}
use native.Mathlib.Nat.{zero-div, zero-mul}
use native.Mathlib.Omega.{arith}
use lib.ListN.{replicate-append-replicate}
use Rattle.maths.specs.Bits.{bit_at}
use Rattle.maths.proofs.Slices.{replicate_at}
use Rattle.maths.proofs.Sums.{sum_l_zero, sum_n_zero, sum_n_ext}
use Rattle.maths.proofs.Bytes.{pack_zero}
use Rattle.codes.specs.Codes.{Known, row_of, circulant_of}
use Rattle.codes.specs.Edges.{edges}
use Rattle.codes.specs.Equations.{bits_of, Meets}
use Rattle.codes.specs.Frames.{adds, generator, parity_of, encoded_bytes}
use Rattle.matrices.proofs.Sizes.{parity_bytes, sizes}
use Rattle.agreement.specs.Examples.{zeros}

-- its bits
pub zero_bits : (n : ℕ) → bit_at (zeros n) ≡ (λ v. 0)
zero_bits n = fun_ext (λ v. rw (replicate_at {A = ℕ} n 0 (v / 8), zero-div (2 ^ (7 - v % 8))))

pub zero_meets : (code : ℕ) → Meets code (λ v. 0)
zero_meets code a h = ap (λ (x : ℕ). x % 2) (sum_l_zero (bits_of (edges code) a))

zero_parity : (code : ℕ) → parity_of code (λ v. 0) ≡ (λ j. 0)
zero_parity code =
    fun_ext (λ j. ap (λ (x : ℕ). x % 2)
    (sum_n_ext (row_of code).k (λ i. 0 * adds (circulant_of code) (generator code) i j) (λ i. 0) (λ i h. zero-mul (adds (circulant_of code) (generator code) i j))
    ∙ sum_n_zero (row_of code).k))

pub zero_frame : (code : ℕ) → Known code → encoded_bytes code (zeros ((row_of code).k / 8)) ≡ zeros ((row_of code).n / 8)
unfolding encoded_bytes
zero_frame code h =
    let s = sizes code h in
    let n : (row_of code).k / 8 + parity_bytes code ≡ (row_of code).n / 8 = omega (arith, s.data_bytes, s.parity_bytes_lem, s.data_fits) in
    rw (zero_bits ((row_of code).k / 8), zero_parity code, pack_zero (parity_bytes code), ← n) (replicate-append-replicate {A = ℕ} ((row_of code).k / 8) (parity_bytes code) 0)
