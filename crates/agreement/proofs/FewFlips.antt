-- Few flipped bits of a TC frame are put right: two by bit flipping, one by min-sum. Assumes nothing.
use mathlib.Core.Bool.{true, false}
use mathlib.Core.List.{List, [], ◌∷◌}
use mathlib.Core.Path.{◌≡◌, ap}
use Prim.Native.Nat.{ℕ, suc, ◌≤◌}
use native.Mathlib.Omega.{arith}
use lib.IntN.{ℤ}
use Rattle.maths.specs.Tests.{Anything}
use Rattle.maths.specs.Distance.{distance, places}
use Rattle.codes.specs.Codes.{TC}
use Rattle.codes.specs.Edges.{edges}
use Rattle.report.specs.Report.{ending, told}
use Rattle.two_flips.specs.Flips.{PairFlips}
use Rattle.two_flips.proofs.Frames as flips
use Rattle.min_sum.specs.Confidence.{whole}
use Rattle.min_sum.specs.Hard.{to_hard}
use Rattle.soft_flip.specs.OneSize.{OneSize}
use Rattle.soft_flip.proofs.Frames as softly
use Rattle.bit_flip.specs.Outcome.{told_flip}
use Rattle.min_sum.specs.Outcomes.{told_soft}
use Rattle.agreement.specs.Parties.{Sent}
use Rattle.agreement.specs.Demands.{FewFlipsReturn}
use Rattle.agreement.specs.Ours.{HardBuffers, bit_flip, bit_flipping, SoftBuffers, min_sum, min_summing, one_sized}
use Rattle.agreement.proofs.Sender.{sent_bytes, sent_length, sent_meets}
use Rattle.agreement.proofs.BitFlip.{bit_flip_returns}
use Rattle.agreement.proofs.MinSum.{whole_returns}

module _ {code : ℕ} (tc : TC code) {frame : List ℕ} (sent : Sent code frame) where
  -- ---- bit flipping
  module _ (b : HardBuffers) (limit : ℕ) (h : bit_flipping.answer code b limit ≡ 0) where
    pub flip_one : distance frame b.input ≡ 1 → 2 ≤ limit → bit_flip code b limit ≡ told (ending true 1) frame
    flip_one one k =
        ap told_flip
        (flips.one_put_right code tc frame (sent_bytes sent) (sent_length sent) (sent_meets sent tc) b.input b.output b.working limit h one k)

    pub flip_late : distance frame b.input ≡ 1 → limit ≡ 1 → bit_flip code b limit ≡ told (ending false 1) frame
    flip_late one k =
        ap told_flip
        (flips.one_seen_late code tc frame (sent_bytes sent) (sent_length sent) (sent_meets sent tc) b.input b.output b.working limit h one k)

    pub flip_two : distance frame b.input ≡ 2 → 4 ≤ limit
        → (x y k : ℕ) × (places frame b.input ≡ x ∷ y ∷ []) × PairFlips (edges code) x y k × (bit_flip code b limit ≡ told (ending true k) frame)
    flip_two two four =
        let (x, y, k, is, taken, e) = flips.two_put_right code tc frame (sent_bytes sent) (sent_length sent) (sent_meets sent tc) b.input b.output b.working limit h two four in
        (x, y, k, is, taken, ap told_flip e)

  -- ---- min-sum, on whole numbers up to any largest
  module _ (top k : ℕ) (fits : suc k ≤ top) (b : SoftBuffers ℤ) (size : OneSize k b.llrs) (limit : ℕ) (h : (min_summing (whole top)).answer code b limit ≡ 0)
      (one : distance frame (to_hard (whole top) b.llrs) ≡ 1) where
    pub soft_one : 2 ≤ limit → min_sum (whole top) code b limit ≡ told (ending true 1) frame
    soft_one two =
        ap told_soft
        (softly.one_put_right code tc frame (sent_bytes sent) (sent_length sent) (sent_meets sent tc) top k fits b.llrs size b.output b.working b.signs h one limit two)

    pub soft_late : limit ≡ 1 → min_sum (whole top) code b limit ≡ told (ending false 1) (to_hard (whole top) b.llrs)
    soft_late single =
        rw single (ap told_soft
        (softly.one_seen_late code tc frame (sent_bytes sent) (sent_length sent) (sent_meets sent tc) top k fits b.llrs size b.output b.working b.signs h one))

-- ---- the demand
pub bit_flip_few : FewFlipsReturn bit_flipping Anything 2 bit_flip
bit_flip_few =
    record {
      unchanged = bit_flip_returns;
      one = λ code b limit frame tc sent h plain e k. flip_one tc sent b limit h e k;
      two = λ most code b limit frame tc sent h plain e four.
          let (x, y, k, is, taken, z) = flip_two tc sent b limit h e four in
          (k, taken.some, taken.most, z);
    }

pub min_sum_few : (top : ℕ) → FewFlipsReturn (min_summing (whole top)) (one_sized top) 1 (min_sum (whole top))
min_sum_few top =
    record {
      unchanged = whole_returns top;
      one = λ code b limit frame tc sent h plain e two. soft_one tc sent top plain.0 plain.1 b plain.2 limit h e two;
      two = λ most. absurd (omega arith);
    }
