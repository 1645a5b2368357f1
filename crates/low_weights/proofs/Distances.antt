-- How far words that meet the equations of a code are apart, by its least weight; byte strings and frames of TC128, TC256 or TC512. Assumes nothing.
use mathlib.Core.Logic.{◌≢◌, ◌⊎◌, inl, inr}
use mathlib.Core.Path.{◌≡◌, sym, ap, ◌∙◌}
use mathlib.Core.List.{List}
use Prim.Native.Nat.{ℕ, ◌/◌, ◌%◌, ◌≤◌, ◌<◌}
use native.Mathlib.Nat.{lt_of_not-le}
use native.Mathlib.Decide.{dec_lt}
use native.Mathlib.Omega.{arith}
use lib.ListN.{length, take}
use Rattle.maths.specs.Sums.{sum_n}
use Rattle.maths.specs.Bits.{bit_at}
use Rattle.maths.specs.Bytes.{Bytes}
use Rattle.maths.specs.Distance.{unequal, distance}
use Rattle.maths.proofs.Bytes.{bit_at_low}
use Rattle.maths.proofs.Distance.{distance_zero, unequal_low}
use Rattle.codes.specs.Codes.{Known, TC, row_of, bits_in, checks_in}
use Rattle.codes.specs.Edges.{edges}
use Rattle.codes.specs.Equations.{Meets}
use Rattle.runs.proofs.Flat.{edges_ranged}
use Rattle.codes.specs.Frames.{encoded_bytes}
use Rattle.matrices.proofs.Apart.{difference_holds}
use Rattle.matrices.proofs.Distances.{distance_bits, distance_even}
use Rattle.matrices.proofs.Encoded.{encoded_length, encoded_bytes_lem, encoded_front, encoded_meets}
use Rattle.low_weights.specs.Weights.{LeastWeight}
use Rattle.low_weights.proofs.Weights.{least_weight}

-- two words of bits that meet every equation and differ in a bit that is sent differ in as many of these as the least weight says
pub words_apart : (code d : ℕ) → Known code → LeastWeight code d → (w w' : ℕ → ℕ) → ((v : ℕ) → w v < 2) → ((v : ℕ) → w' v < 2)
    → Meets code w → Meets code w' → 0 < sum_n (row_of code).n (unequal w w') → d ≤ sum_n (row_of code).n (unequal w w')
words_apart code d known least w w' bits bits' good good' =
    least (unequal w w') (unequal_low w w') (difference_holds (edges code) (checks_in code) (bits_in code) (edges_ranged code known) w w' bits bits' good good')

module _ (code : ℕ) (tc : TC code) (s t : List ℕ) (s_length : length s ≡ (row_of code).n / 8) where
  module _ (good : Meets code (bit_at s)) (good' : Meets code (bit_at t)) where
    -- two byte strings that meet every equation differ in ten bits or more, if in any
    pub distance_ten : 0 < distance s t → 10 ≤ distance s t
    distance_ten =
        rw (distance_bits code s t s_length (omega arith))
        (words_apart code 10 (omega arith) (least_weight code tc) (bit_at s) (bit_at t) (bit_at_low s) (bit_at_low t) good good')

    -- so that two at a distance of nine or less are equal
    pub near_same : length t ≡ (row_of code).n / 8 → Bytes s → Bytes t → distance s t ≤ 9 → s ≡ t
    near_same t_length hs ht near = distance_zero s t (s_length ∙ sym t_length) hs ht (go (dec_lt 0 (distance s t)))
      where
        go : Dec (0 < distance s t) → distance s t ≡ 0
        go (yes h) = absurd (omega (arith, distance_ten h))
        go (no h) = omega arith

  -- of two byte strings that differ in one to nine, or in any odd number of bits, not both meet every equation
  pub wrong_noticed : ((0 < distance s t) × (distance s t < 10)) ⊎ (distance s t % 2 ≡ 1) → Meets code (bit_at s) → Meets code (bit_at t) → ⊥
  wrong_noticed (inl h) good good' = omega (arith, distance_ten good good' h.0)
  wrong_noticed (inr h) good good' = omega (arith, distance_even code s t s_length tc good good')

-- the bytes of different messages are ten bits apart at least
pub encoded_apart : (code : ℕ) → TC code → (msg msg' : List ℕ) → length msg ≡ (row_of code).k / 8 → length msg' ≡ (row_of code).k / 8
    → Bytes msg → Bytes msg' → msg ≢ msg' → 10 ≤ distance (encoded_bytes code msg) (encoded_bytes code msg')
encoded_apart code tc msg msg' len len' hs hs' ne =
    lt_of_not-le (λ near. ne (sym (encoded_front code msg len) ∙ ap (take ((row_of code).k / 8)) (same near) ∙ encoded_front code msg' len'))
  where
    same : distance (encoded_bytes code msg) (encoded_bytes code msg') ≤ 9 → encoded_bytes code msg ≡ encoded_bytes code msg'
    same =
        near_same code tc (encoded_bytes code msg) (encoded_bytes code msg') (encoded_length code (omega arith) msg len)
        (encoded_meets code tc msg len) (encoded_meets code tc msg' len') (encoded_length code (omega arith) msg' len')
        (encoded_bytes_lem code msg hs) (encoded_bytes_lem code msg' hs')
