-- What is asked of an encoder and of a decoder: each demand is a predicate of what its calls leave. Assumes nothing.
use Rattle.std.specs.Prelude.{true, false, List, ◌≡◌, ℕ, ◌≤◌, ◌<◌}
use Rattle.maths.specs.Tests.{Anything}
use Rattle.maths.specs.Bits.{bit_at}
use Rattle.maths.specs.Distance.{distance}
use Rattle.codes.specs.Codes.{TC, TM, row_of}
use Rattle.codes.specs.Equations.{Meets}
use Rattle.codes.specs.Frames.{frame_of}
use Rattle.report.specs.declared.Report.{Report}
use Rattle.report.specs.Report.{ending, Told, told}
use Rattle.encoder.specs.Outcomes.{Encoded}
use Rattle.telemetry.specs.Completion.{Completes}
use Rattle.agreement.specs.Parties.{Sent}

-- ---- an encoder: by code and the buffers that it is lent, its answer and the codeword
abbrev pub Encoder : Type 0 → Type 0
Encoder B = ℕ → B → Encoded

-- how it is called: the number of the first test that the buffers fail, or 0, the message that they bring, and the codeword before
pub record Sending (B : Type 0) : Type 0 where
  pub answer : ℕ → B → ℕ
  pub message : ℕ → B → List ℕ
  pub codeword : B → List ℕ

module _ {B : Type 0} (calls : Sending B) (e : Encoder B) where
  -- the refusal table
  abbrev pub EncodesByTable : Type 0
  EncodesByTable = (code : ℕ) (b : B) → (e code b).answer ≡ calls.answer code b

  -- demand 2's encoder: the data, and the parity bits that it adds up to
  abbrev pub EncodesData : Type 0
  EncodesData = (code : ℕ) (b : B) → calls.answer code b ≡ 0 → (v : ℕ) → v < (row_of code).n
      → bit_at (e code b).codeword v ≡ frame_of code (bit_at (calls.message code b)) v

  -- demand 3: every encoded frame of a TC code meets the parity equations
  abbrev pub FrameMeets : Type 0
  FrameMeets = (code : ℕ) (b : B) → TC code → calls.answer code b ≡ 0 → Meets code (bit_at (e code b).codeword)

-- ---- a decoder: by code, the buffers that it is lent and the limit, its report and the output
abbrev pub Decoder : Type 0 → Type 0
Decoder B = ℕ → B → ℕ → Told

-- how it is called: the number of the first test that the call fails, or 0, the word that it brings, and the output before;
-- and what document 01's steps make of an accepted call: the word at hand in a pass, by its number, and what is told at the end
pub record Receiving (B : Type 0) : Type 0 where
  pub answer : ℕ → B → ℕ → ℕ
  pub word : B → List ℕ
  pub output : B → List ℕ
  pub hand : ℕ → B → ℕ → ℕ → ℕ → ℕ
  pub steps : ℕ → B → ℕ → Told

-- "it must be the pass at which the equations first hold": of the word at hand in each pass. With no success they hold in none, and all passes
-- are made; a success has the number of a pass, in which they hold, and in none before it
pub record Counted (code : ℕ) (hand : ℕ → ℕ → ℕ) (limit : ℕ) (r : Report) : Type 0 where
  pub none : r.success ≡ false → (i : ℕ) → i < limit → Meets code (hand i) → ⊥
  pub spent : r.success ≡ false → r.iters ≡ limit
  pub within : r.success ≡ true → r.iters < limit
  pub hold : r.success ≡ true → Meets code (hand r.iters)
  pub first : r.success ≡ true → (i : ℕ) → i < r.iters → Meets code (hand i) → ⊥

module _ {B : Type 0} (calls : Receiving B) (d : Decoder B) where
  -- the refusal table
  abbrev pub DecodesByTable : Type 0
  DecodesByTable = (code : ℕ) (b : B) (limit : ℕ) → (d code b limit).report.answer ≡ calls.answer code b limit

  -- demand 3: whatever it calls a success meets every parity equation
  abbrev pub SuccessMeets : Type 0
  SuccessMeets = (code : ℕ) (b : B) (limit : ℕ) → (d code b limit).report.success ≡ true → Meets code (bit_at (d code b limit).output)

  -- demand 3: a frame of a TC code that comes unchanged, with a limit of at least 1, comes back the same with success at iteration 0.
  -- `plain` are the calls of which this is asked
  abbrev pub FrameReturns : (B → Type 0) → Type 0
  FrameReturns plain = (code : ℕ) (b : B) (limit : ℕ) → TC code → Sent code (calls.word b) → calls.answer code b limit ≡ 0 → plain b → 1 ≤ limit
      → d code b limit ≡ told (ending true 0) (calls.word b)

  -- request T-10: a frame of a TM code that comes unchanged, with a limit of at least 1, comes back completed, with success at iteration 0
  abbrev pub FrameCompletes : Type 0
  FrameCompletes = (code : ℕ) (b : B) (limit : ℕ) → TM code → Sent code (calls.word b) → calls.answer code b limit ≡ 0 → 1 ≤ limit
      → ((d code b limit).report ≡ ending true 0) × Completes code (calls.word b) (d code b limit).output

  -- demand 2: the iteration number is the pass count
  abbrev pub CountsPasses : Type 0
  CountsPasses = (code : ℕ) (b : B) (limit : ℕ) → calls.answer code b limit ≡ 0 → Counted code (calls.hand code b limit) limit (d code b limit).report

  -- demand 2: the report and the output are those of document 01's steps, for each limit
  abbrev pub DecodesAs : Type 0
  DecodesAs = (code : ℕ) (b : B) (limit : ℕ) → calls.answer code b limit ≡ 0 → d code b limit ≡ calls.steps code b limit

-- request T-11, and beyond it what the tables give: a frame of a TC code comes back though one of its bits, or two where `most` is two, were flipped
-- on the way. `plain` are the calls of which this is asked, besides an unchanged frame
pub record FewFlipsReturn {B : Type 0} (calls : Receiving B) (plain : B → Type 0) (most : ℕ) (d : Decoder B) : Type 0 where
  pub unchanged : FrameReturns calls d Anything
  -- "the limit is 2 or more .. return the sent frame with (true, 1)"
  pub one : (code : ℕ) (b : B) (limit : ℕ) (frame : List ℕ) → TC code → Sent code frame → calls.answer code b limit ≡ 0 → plain b
      → distance frame (calls.word b) ≡ 1 → 2 ≤ limit → d code b limit ≡ told (ending true 1) frame
  -- with two: a limit of 4 or more, at iteration 1, 2 or 3
  pub two : 2 ≤ most → (code : ℕ) (b : B) (limit : ℕ) (frame : List ℕ) → TC code → Sent code frame → calls.answer code b limit ≡ 0 → plain b
      → distance frame (calls.word b) ≡ 2 → 4 ≤ limit → (k : ℕ) × (1 ≤ k) × (k ≤ 3) × (d code b limit ≡ told (ending true k) frame)
