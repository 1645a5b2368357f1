-- Words and frames of the TM codes: those that meet the equations are four sent bits apart. Assumes nothing.
use mathlib.Core.List.{List}
use mathlib.Core.Path.{◌≡◌, ◌∙◌, subst}
use Prim.Native.Nat.{ℕ, ◌/◌, ◌≤◌, ◌<◌}
use native.Mathlib.Omega.{arith}
use lib.ListN.{length, take}
use lib.Seq.{length-take-le}
use Rattle.maths.specs.Bits.{bit_at}
use Rattle.maths.specs.Bytes.{Bytes}
use Rattle.maths.specs.Sums.{sum_n}
use Rattle.maths.specs.Distance.{unequal, distance}
use Rattle.maths.proofs.Sums.{sum_n_ext}
use Rattle.maths.proofs.Bytes.{bit_at_low, bit_at_take}
use Rattle.codes.specs.Codes.{TM, row_of}
use Rattle.codes.specs.Equations.{Meets}
use Rattle.codes.proofs.Codes.{roomy}
use Rattle.matrices.proofs.Distances.{distance_bits}
use Rattle.telemetry.specs.Completion.{Completes}
use Rattle.telemetry.proofs.Clean.{completes_front}
use Rattle.tm_distance.proofs.Sent.{sent_four}

module _ (code : ℕ) (tm : TM code) where
  -- the bytes of a word that are sent
  abbrev pub front : List ℕ → List ℕ
  front = take ((row_of code).n / 8)

  pub front_length : (s : List ℕ) → length s ≡ (row_of code).output_len → length (front s) ≡ (row_of code).n / 8
  front_length s long = let r = roomy code tm.1 in length-take-le ((row_of code).n / 8) s (omega (arith, r.sent, r.whole))

  pub front_bit : (s : List ℕ) (v : ℕ) → v < (row_of code).n → bit_at (front s) v ≡ bit_at s v
  front_bit s v h = bit_at_take ((row_of code).n / 8) s v (omega (arith, (roomy code tm.1).sent))

  pub strings_four : (s t : List ℕ) → length s ≡ (row_of code).output_len → Meets code (bit_at s) → Meets code (bit_at t)
      → 0 < distance (front s) (front t) → 4 ≤ distance (front s) (front t)
  strings_four s t long good good' =
      let bits : distance (front s) (front t) ≡ sum_n (row_of code).n (unequal (bit_at s) (bit_at t)) =
      distance_bits code (front s) (front t) (front_length s long) tm.1
      ∙ sum_n_ext (row_of code).n _ _ (λ v h. rw (front_bit s v h, front_bit t v h)) in
      rw bits (sent_four code tm (bit_at s) (bit_at t) (bit_at_low s) (bit_at_low t) good good')

  -- a frame that has a completion
  module _ (frame full : List ℕ) (bytes : Bytes frame) (len : length frame ≡ (row_of code).n / 8) (c : Completes code frame full) where
    -- a word that meets every equation begins with the frame, or differs from it in four bits
    pub frame_four : (word : List ℕ) → Meets code (bit_at word) → 0 < distance frame (front word) → 4 ≤ distance frame (front word)
    frame_four word good =
        subst (λ (s : List ℕ). 0 < distance s (front word) → 4 ≤ distance s (front word)) (completes_front code tm frame full bytes len c)
        (strings_four full word c.long c.meets good)
