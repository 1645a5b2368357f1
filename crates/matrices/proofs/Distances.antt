-- The distance of two byte strings, in bits that are sent; of those that meet the equations of TC128, TC256 or TC512 it is even. Assumes nothing.
use mathlib.Core.Path.{◌≡◌, ap, ◌∙◌}
use mathlib.Core.List.{List}
use Prim.Native.Nat.{ℕ, ◌*◌, ◌/◌}
use native.Mathlib.Omega.{arith}
use lib.ListN.{length}
use Rattle.maths.specs.Sums.{sum_n, Even}
use Rattle.maths.specs.Bits.{bit_at}
use Rattle.maths.specs.Distance.{unequal, distance}
use Rattle.maths.proofs.Bytes.{bit_at_low}
use Rattle.codes.specs.Codes.{Known, TC, row_of, bits_in, checks_in}
use Rattle.codes.specs.Edges.{edges}
use Rattle.codes.specs.Equations.{Meets}
use Rattle.codes.proofs.Codes.{roomy, tc_sent}
use Rattle.runs.proofs.Flat.{edges_ranged}
use Rattle.matrices.proofs.Apart.{apart_even}
use Rattle.matrices.proofs.Telecommand.{column_odd}

module _ (code : ℕ) (s t : List ℕ) (s_length : length s ≡ (row_of code).n / 8) where
  -- of n/8 bytes: in how many of the n bits that are sent the other string differs
  pub distance_bits : Known code → distance s t ≡ sum_n (row_of code).n (unequal (bit_at s) (bit_at t))
  unfolding distance
  distance_bits known = ap (λ (n : ℕ). sum_n n (unequal (bit_at s) (bit_at t))) (ap (λ (l : ℕ). 8 * l) s_length ∙ (roomy code known).sent)

  -- two words that meet every equation differ in an even number of bits
  pub distance_even : TC code → Meets code (bit_at s) → Meets code (bit_at t) → Even (distance s t)
  distance_even tc good good' =
      let whole : (row_of code).n ≡ bits_in code = omega (arith, tc_sent code tc) in
      rw (distance_bits (omega arith), whole)
      (apart_even (edges code) (checks_in code) (bits_in code) (edges_ranged code (omega arith)) (column_odd code tc)
      (bit_at s) (bit_at t) (bit_at_low s) (bit_at_low t) good good')
