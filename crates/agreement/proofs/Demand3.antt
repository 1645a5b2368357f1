-- Demand 3 holds: of any confidences that are steady, with two of them for the bits; so of whole numbers, and of i8. Assumes nothing.
use mathlib.Core.Bool.{true, false}
use mathlib.Core.List.{List}
use mathlib.Core.Path.{◌≡◌, refl, sym, ◌∙◌}
use Prim.Native.Nat.{ℕ, suc, ◌+◌, ◌/◌, ◌≤◌}
use native.Mathlib.Omega.{arith}
use lib.IntN.{pos, negsuc}
use lib.ListN.{length}
use Rattle.maths.specs.Distance.{distance}
use Rattle.maths.proofs.Triangle.{distance_over}
use Rattle.codes.specs.Codes.{TC, row_of}
use Rattle.codes.proofs.Codes.{roomy}
use Rattle.matrices.proofs.Sizes.{tc_bits}
use Rattle.low_weights.proofs.Distances.{near_same, wrong_noticed}
use Rattle.report.specs.Report.{Told}
use Rattle.two_flips.proofs.Frames as flips
use Rattle.min_sum.specs.Soft.{hard}
use Rattle.min_sum.specs.Confidence.{Confidence, Steady, whole, i8}
use Rattle.min_sum.specs.Hard.{to_hard}
use Rattle.min_sum.proofs.Success.{steady}
use Rattle.soft_flip.specs.OneSize.{OneSize}
use Rattle.soft_flip.proofs.Frames.{llrs_one_size}
use Rattle.agreement.specs.Parties.{Sent, Success, ByMinSum}
use Rattle.agreement.specs.Demand3.{Telecommand, Demand3}
use Rattle.agreement.proofs.Sender.{sent_length, sent_bytes, sent_meets}
use Rattle.agreement.proofs.BitFlip.{bit_flip_returns, flipping_lent, flipping_accepted, flipping_told}
use Rattle.agreement.proofs.MinSum.{min_sum_returns, summing_lent, summing_accepted, summing_told, summing_llrs, summing_in, summing_hard}
use Rattle.agreement.proofs.FewFlips.{flip_one, flip_late, flip_two, soft_one, soft_late}
use Rattle.agreement.proofs.Received.{succeeded, returned}
use Rattle.agreement.proofs.Telemetry.{telemetry}

-- ---- min-sum on whole numbers of one size
module _ {top k : ℕ} {code : ℕ} {received : List ℕ} {limit : ℕ} {x : Told} (c : ByMinSum (whole top) (negsuc k) (pos (suc k)) code received limit x) where
  one_size : OneSize k c.llrs
  one_size = rw (summing_llrs c) (llrs_one_size k received)

  whole_hard : to_hard (whole top) c.llrs ≡ received
  unfolding hard
  whole_hard = summing_hard c refl refl refl

-- ---- a success near a sent frame
near : {code : ℕ} {frame : List ℕ} → TC code → Sent code frame → (received : List ℕ) {output : List ℕ} → length received ≡ (row_of code).n / 8
    → distance frame received + distance received output ≤ 9 → Success code output → output ≡ frame
near {code} {frame} tc sent received {output} long few s =
    let y = succeeded s in
    let whole : (row_of code).output_len ≡ (row_of code).n / 8 = omega (arith, (roomy code (omega arith)).whole, tc_bits code tc) in
    let over = distance_over frame received output (sent_length sent ∙ sym long) in
    sym (near_same code tc frame output (sent_length sent) (sent_meets sent tc) y.meets (y.long ∙ whole) (sent_bytes sent) y.bytes (omega arith))

module _ {C : Type 0} (o : Confidence C) {In : C → Type 0} (st : Steady o In) (minus plus : C) (minus_in : In minus) (plus_in : In plus)
    (minus_hard : o.hard minus ≡ true) (plus_hard : o.hard plus ≡ false) where
  module _ {code : ℕ} {frame : List ℕ} (tc : TC code) (sent : Sent code frame) where
    telecommand : Telecommand o minus plus code frame
    telecommand =
        record {
          sent_meets = sent_meets sent tc;
          unchanged_bit_flipping = λ {limit} c k. returned (flipping_told c ∙ bit_flip_returns code (flipping_lent c) limit tc sent (flipping_accepted c) tt k);
          unchanged_min_sum = λ {limit} c k.
              let same = summing_hard c minus_hard plus_hard st.zero_hard in
              returned (summing_told c
              ∙ min_sum_returns o st code (summing_lent c) limit tc (rw same sent) (summing_accepted c) (summing_in c st minus_in plus_in) k ∙ rw same);
          damage_noticed = λ {received} wrong s. wrong_noticed code tc frame received (sent_length sent) wrong (sent_meets sent tc) (succeeded s).meets;
          one_corrected = λ received long one by s. near tc sent received long (omega arith) s;
          four_corrected = λ received long four by s. near tc sent received long (omega arith) s;
          near_success = λ received long few s. near tc sent received long few s;
          one_put_right = λ {received} {limit} c one k. returned (flipping_told c ∙ flip_one tc sent (flipping_lent c) limit (flipping_accepted c) one k);
          one_seen_late = λ {received} {limit} c one k. returned (flipping_told c ∙ flip_late tc sent (flipping_lent c) limit (flipping_accepted c) one k);
          two_put_right = λ {received} {limit} c two four.
              let (a, b, k, is, taken, e) = flip_two tc sent (flipping_lent c) limit (flipping_accepted c) two four in
              (a, b, k, is, taken, returned (flipping_told c ∙ e));
          errors_alone = λ {received} {errors} {limit} c d differ.
              rw (flipping_told c, flipping_told d)
              (flips.errors_alone code tc frame (sent_bytes sent) (sent_length sent) (sent_meets sent tc) received c.old c.working limit
              (flipping_accepted c) errors d.old d.working (flipping_accepted d) differ);
          one_put_right_min_sum = λ {top} {k} fits {received} {limit} c one two.
              returned (summing_told c ∙ soft_one tc sent top k fits (summing_lent c) (one_size c) limit (summing_accepted c) (rw (whole_hard c) one) two);
          one_seen_late_min_sum = λ {top} {k} fits {received} {limit} c one single.
              returned (summing_told c ∙ soft_late tc sent top k fits (summing_lent c) (one_size c) limit (summing_accepted c) (rw (whole_hard c) one) single
              ∙ rw (whole_hard c));
        }

  pub demand3 : Demand3 o minus plus
  demand3 = record { success_meets = λ s. (succeeded s).meets; telecommand = telecommand; telemetry = telemetry }

-- of whole numbers up to any largest, with minus and plus any one size
pub demand3_whole : (top k : ℕ) → Demand3 (whole top) (negsuc k) (pos (suc k))
unfolding hard
demand3_whole top k = demand3 (whole top) (steady top) (negsuc k) (pos (suc k)) tt tt refl refl

-- and so of i8, with -1 for a 1 bit and 1 for a 0 bit
pub demand3_i8 : Demand3 i8 (negsuc 0) (pos 1)
demand3_i8 = demand3_whole 127 0
