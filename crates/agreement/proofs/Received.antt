-- What is received: a success by whatever decoder, and what came back of a call. Assumes nothing.
use mathlib.Core.Bool.{Bool}
use mathlib.Core.List.{List}
use mathlib.Core.Path.{◌≡◌, sym, ap, ◌∙◌}
use Prim.Native.Nat.{ℕ}
use lib.ListN.{length}
use Rattle.maths.specs.Bits.{bit_at}
use Rattle.maths.specs.Bytes.{Bytes}
use Rattle.codes.specs.Codes.{row_of}
use Rattle.codes.specs.Equations.{Meets}
use Rattle.report.specs.Report.{ending, Told, told}
use Rattle.bit_flip.specs.Outcome as flip
use Rattle.min_sum.specs.Outcomes as soft
use Rattle.agreement.specs.Parties.{Answered, by_bit_flipping, by_min_sum, Success, Returned}
use Rattle.agreement.specs.Ours.{HardBuffers, SoftBuffers}
use Rattle.agreement.proofs.BitFlip.{bit_flip_meets, bit_flip_accepted, bit_flip_bytes, bit_flip_length}
use Rattle.agreement.proofs.MinSum.{min_sum_meets, min_sum_accepted, min_sum_bytes, min_sum_length}

-- ---- what a success has, for each decoder by the demands that it meets
pub record Succeeded (code : ℕ) (word : List ℕ) : Type 0 where
  pub meets : Meets code (bit_at word)
  pub bytes : Bytes word
  pub long : length word ≡ (row_of code).output_len

pub succeeded : {code : ℕ} {word : List ℕ} → Success code word → Succeeded code word
succeeded {code} {word} s = by s.answered
  where
    by : Answered code (told s.report word) → Succeeded code word
    by (by_bit_flipping input old working working' limit e) =
        let b : HardBuffers = record { input = input; output = old; working = working } in
        let y = sym (ap (λ (x : flip.Outcome). x.report.success) e) ∙ s.said in
        let h = bit_flip_accepted code b limit y in
        rw (ap (λ (x : flip.Outcome). x.output) e)
        (record { meets = bit_flip_meets code b limit y; bytes = bit_flip_bytes code b limit h; long = bit_flip_length code b limit h })
    by (by_min_sum {C} o llrs working working' old signs signs' limit e) =
        let b : SoftBuffers C = record { llrs = llrs; output = old; working = working; signs = signs } in
        let y = sym (ap (λ (x : soft.Outcome C). x.report.success) e) ∙ s.said in
        let h = min_sum_accepted o code b limit y in
        rw (ap (λ (x : soft.Outcome C). x.output) e)
        (record { meets = min_sum_meets o code b limit y; bytes = min_sum_bytes o code b limit h; long = min_sum_length o code b limit h })

-- ---- what comes back
pub returned : {success : Bool} {k : ℕ} {word : List ℕ} {x : Told} → x ≡ told (ending success k) word → Returned success k word x
returned e = record { says = ap (λ (y : Told). y.report.success) e; at = ap (λ (y : Told). y.report.iters) e; leaves = ap (λ (y : Told). y.output) e }
