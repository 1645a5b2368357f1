-- When the library agrees with what a case records. Assumes nothing.
use Rattle.std.specs.Prelude.{Bool, List, ◌≡◌, ℕ, min, ℤ, replicate}
use Rattle.maths.specs.Tests.{Agrees}
use Rattle.report.specs.Report.{Told, told}
use Rattle.encoder.specs.Outcomes.{encoded, encode_outcome, copy_encode_outcome}
use Rattle.bit_flip.specs.Outcome as flip
use Rattle.min_sum.specs.Confidence.{i8}
use Rattle.min_sum.specs.Outcomes as soft
use Rattle.cases.specs.declared.Case.{Case}
use Rattle.cases.specs.Cases.{recorded, softened}

-- the part of a buffer that is lent: n times one value, and no more than the buffer has
abbrev pub lent : {A : Type 0} → ℕ → A → ℕ → List A
lent room x n = replicate (min n room) x

-- ---- the encoders and the conversions
-- both encoders leave the recorded codeword: from the data, and from the codeword once more
pub record Encodes (code : ℕ) (message word want : List ℕ) : Type 0 where
  pub copied : copy_encode_outcome code message word ≡ encoded 0 want
  pub again : encode_outcome code want ≡ encoded 0 want

-- a test tells exactly whether they do, and the codeword is what they leave
pub record EncodeCompared (code : ℕ) (message word want : List ℕ) (r : Bool) (codeword : List ℕ) : Type 0 where
  pub agrees : Agrees r (Encodes code message word want)
  pub left : codeword ≡ (copy_encode_outcome code message word).codeword

-- a test tells exactly whether a conversion is accepted and leaves what is recorded, and the buffer is what it leaves
pub record Converted {A : Type 0} (x : soft.Written A) (want : List A) (r : Bool) (buffer : List A) : Type 0 where
  pub agrees : Agrees r (x ≡ soft.written 0 want)
  pub left : buffer ≡ x.buffer

-- ---- the decoders
-- a test tells exactly whether what is compared is what the case records, and the output is what was compared
pub record Compared (c : Case) (want : List ℕ) (x : Told) (r : Bool) (output : List ℕ) : Type 0 where
  pub agrees : Agrees r (x ≡ told (recorded c) want)
  pub left : output ≡ x.output

-- what bit flipping leaves, as the case asks for it
abbrev pub bit_flipping : Case → List ℕ → List ℕ → List ℕ → flip.Outcome
bit_flipping c input output working = flip.outcome c.code input output working c.limit

-- what min-sum leaves, as the case asks for it, of the confidences that the bytes stand for
abbrev pub min_sum : Case → List ℕ → List ℕ → List ℤ → List ℤ → List ℕ → soft.Outcome ℤ
min_sum c bytes output llrs working signs = soft.decode_outcome i8 c.code (softened bytes llrs) output working signs c.limit

-- bit flipping is compared, and its working buffer is left
pub record FlipCompared (c : Case) (want : List ℕ) (x : flip.Outcome) (r : Bool) (output working : List ℕ) : Type 0 where
  pub compared : Compared c want (flip.told_flip x) r output
  pub working_left : working ≡ x.working

-- min-sum is compared, and both its working buffers are left
pub record SoftCompared (c : Case) (want : List ℕ) (x : soft.Outcome ℤ) (r : Bool) (output : List ℕ) (working : List ℤ) (signs : List ℕ) : Type 0 where
  pub compared : Compared c want (soft.told_soft x) r output
  pub working_left : working ≡ x.working
  pub signs_left : signs ≡ x.working_u8
