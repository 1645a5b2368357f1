-- A sender and a receiver, by what their calls leave: each holds the promise of a function. Assumes nothing.
use Rattle.std.specs.Prelude.{Bool, true, List, ◌≡◌, ℕ}
use Rattle.maths.specs.Bytes.{Bytes}
use Rattle.report.specs.declared.Report.{Report}
use Rattle.report.specs.Report.{Told, told}
use Rattle.encoder.specs.Outcomes.{encoded, encode_outcome, copy_encode_outcome}
use Rattle.bit_flip.specs.Outcome as flip
use Rattle.min_sum.specs.Confidence.{Confidence}
use Rattle.min_sum.specs.Outcomes as soft

-- a frame as it is sent: an accepted call of `encode` or of `copy_encode` left these bytes in the codeword
pub data Sent (code : ℕ) (frame : List ℕ) : Type 0 where
  by_encode : (answer : ℕ) (codeword : List ℕ) → Bytes codeword → encoded answer frame ≡ encode_outcome code codeword → answer ≡ 0 → Sent code frame
  by_copy_encode : (answer : ℕ) (message codeword : List ℕ) → Bytes message → encoded answer frame ≡ copy_encode_outcome code message codeword
      → answer ≡ 0 → Sent code frame

-- an answer as it is received: a call of a decoder, on any confidences and whatever it was lent, left this report and these bytes in the output
pub data Answered (code : ℕ) (x : Told) : Type 1 where
  by_bit_flipping : (input old working working' : List ℕ) (limit : ℕ)
      → flip.left x.report x.output working' ≡ flip.outcome code input old working limit → Answered code x
  by_min_sum : {C : Type 0} (o : Confidence C) (llrs working working' : List C) (old signs signs' : List ℕ) (limit : ℕ)
      → soft.left x.report x.output working' signs' ≡ soft.decode_outcome o code llrs old working signs limit → Answered code x

-- a word that a decoder calls a success
pub record Success (code : ℕ) (word : List ℕ) : Type 1 where
  pub report : Report
  pub answered : Answered code (told report word)
  pub said : report.success ≡ true

-- ---- accepted calls, by what was received and the limit
pub record ByFlipping (code : ℕ) (received : List ℕ) (limit : ℕ) (x : Told) : Type 0 where
  pub old : List ℕ
  pub working : List ℕ
  pub working' : List ℕ
  pub promise : flip.left x.report x.output working' ≡ flip.outcome code received old working limit
  pub accepted : x.report.answer ≡ 0

-- min-sum is fed through `hard_to_llrs`, which makes minus of a 1 bit and plus of a 0 bit
pub record ByMinSum {C : Type 0} (o : Confidence C) (minus plus : C) (code : ℕ) (received : List ℕ) (limit : ℕ) (x : Told) : Type 0 where
  pub bytes : Bytes received
  pub answer : ℕ
  pub before : List C
  pub llrs : List C
  pub converted : soft.written answer llrs ≡ soft.to_llrs_outcome minus plus code received before
  pub answered : answer ≡ 0
  pub old : List ℕ
  pub working : List C
  pub working' : List C
  pub signs : List ℕ
  pub signs' : List ℕ
  pub promise : soft.left x.report x.output working' signs' ≡ soft.decode_outcome o code llrs old working signs limit
  pub accepted : x.report.answer ≡ 0

-- ---- what comes back: whether with success, at which iteration, and the word
pub record Returned (success : Bool) (k : ℕ) (word : List ℕ) (x : Told) : Type 0 where
  pub says : x.report.success ≡ success
  pub at : x.report.iters ≡ k
  pub leaves : x.output ≡ word
