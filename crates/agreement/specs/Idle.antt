-- "Try these idle versions": each as what its calls leave, and the demand that shuts it out. Assumes nothing.
use Rattle.std.specs.Prelude.{true, false, List, reverse, ◌≡◌, ℕ, min, ◌≤◌}
use Rattle.maths.specs.Tests.{pick}
use Rattle.maths.specs.Lists.{fold}
use Rattle.maths.specs.Budget.{Turn, stop, go, run}
use Rattle.maths.specs.Distance.{distance}
use Rattle.codes.specs.Codes.{TC, TM, row_of, checks_in}
use Rattle.codes.specs.Edges.{Edge, edges}
use Rattle.report.specs.declared.Report.{Report}
use Rattle.report.specs.Report.{refusal, ending, Told, told, saying, counting}
use Rattle.encoder.specs.Outcomes.{Encoded, encoded}
use Rattle.min_sum.specs.Confidence.{Confidence}
use Rattle.min_sum.specs.MinSum.{Messages, numbered, add_message, take_message, restarted, renewed, start, met}
use Rattle.min_sum.specs.Hard.{to_hard}
use Rattle.agreement.specs.Parties.{Sent}
use Rattle.agreement.specs.Demands.{Encoder, Sending, EncodesByTable, EncodesData, FrameMeets, Decoder, Receiving, DecodesByTable, SuccessMeets, FrameReturns, FrameCompletes, CountsPasses, DecodesAs, FewFlipsReturn}
use Rattle.agreement.specs.Ours.{SoftBuffers}

-- what a decoder says, by code, the buffers that it is lent and the limit
abbrev pub Reports : Type 0 → Type 0
Reports B = ℕ → B → ℕ → Report

module _ {B : Type 0} where
  -- ---- encoders. "Doing nothing": the codeword as before, whatever it answers
  abbrev pub rests_encoding : Sending B → (ℕ → B → ℕ) → Encoder B
  rests_encoding calls answers code b = encoded (answers code b) (calls.codeword b)

  -- "One fixed answer"
  abbrev pub encodes_alike : Encoded → Encoder B
  encodes_alike x code b = x

  -- ---- decoders. "Doing nothing": the output as before, whatever it says
  abbrev pub rests : Receiving B → Reports B → Decoder B
  rests calls says code b limit = told (says code b limit) (calls.output b)

  -- "Always refusing", by some number
  abbrev pub refuses : Receiving B → (ℕ → B → ℕ → ℕ) → Decoder B
  refuses calls number = rests calls (λ code b limit. refusal (number code b limit))

  -- "always saying false": any decoder, whose every success is struck out
  abbrev pub fails : Decoder B → Decoder B
  fails d code b limit =
      let x = d code b limit in
      told (saying false x.report) x.output

  -- "One fixed answer"
  abbrev pub decodes_alike : Told → Decoder B
  decodes_alike x code b limit = x

  -- "copying input to output", whatever it says
  abbrev pub copies : Receiving B → Reports B → Decoder B
  copies calls says code b limit = told (says code b limit) (calls.word b)

  -- "All the work in pass 0, later passes for show": any decoder, whose output is that of one pass at most
  abbrev pub works_once : Decoder B → Decoder B
  works_once d code b limit = told (d code b limit).report (d code b (min limit 1)).output

  -- "A made-up iteration number": any decoder, with another number
  abbrev pub renumbered : (ℕ → B → ℕ → ℕ) → Decoder B → Decoder B
  renumbered number d code b limit =
      let x = d code b limit in
      told (counting (number code b limit) x.report) x.output

  -- it says true of every call that is accepted, with a limit of at least 1
  abbrev pub SaysTrue : Receiving B → Reports B → Type 0
  SaysTrue calls says = (code : ℕ) (b : B) (limit : ℕ) → calls.answer code b limit ≡ 0 → 1 ≤ limit → (says code b limit).success ≡ true

-- ---- no idle encoder, of those that are called so, meets the demands
pub record NoIdleEncoder {B : Type 0} (calls : Sending B) : Type 0 where
  -- "Always refusing .. : the refusal table"
  pub refusing : (number : ℕ → B → ℕ) → ((code : ℕ) (b : B) → 1 ≤ number code b) → EncodesByTable calls (rests_encoding calls number) → ⊥
  -- "One fixed answer: demand 2's encoder."
  pub one_answer : (x : Encoded) → EncodesData calls (encodes_alike x) → ⊥
  -- "Doing nothing": demand 2's encoder, and demand 3, since every encoded frame meets the equations
  pub resting : (answers : ℕ → B → ℕ) → EncodesData calls (rests_encoding calls answers) → ⊥
  pub resting_frame : (answers : ℕ → B → ℕ) → FrameMeets calls (rests_encoding calls answers) → ⊥

-- ---- no idle decoder, of those that are called so, meets the demands. `plain` are the calls of which an unchanged frame is asked
pub record NoIdleDecoder {B : Type 0} (calls : Receiving B) (plain : B → Type 0) : Type 0 where
  -- "Always refusing, or always saying false: the refusal table and demand 3's unchanged frame shut them out."
  pub refusing : (number : ℕ → B → ℕ → ℕ) → ((code : ℕ) (b : B) (limit : ℕ) → 1 ≤ number code b limit) → DecodesByTable calls (refuses calls number) → ⊥
  pub failing : (d : Decoder B) → FrameReturns calls (fails d) plain → ⊥
  -- "One fixed answer": two frames come back, each as it was
  pub one_answer : (x : Told) → FrameReturns calls (decodes_alike x) plain → ⊥
  -- "Doing nothing, or copying input to output with true: demand 3, since a success meets every equation."
  pub resting : (says : Reports B) → SaysTrue calls says → SuccessMeets calls (rests calls says) → ⊥
  pub copying : (says : Reports B) → SaysTrue calls says → SuccessMeets calls (copies calls says) → ⊥
  -- doing nothing, whatever it says: an unchanged frame comes back
  pub resting_frame : (says : Reports B) → FrameReturns calls (rests calls says) plain → ⊥
  -- copying input to output, whatever it says: the output is that of the steps
  pub copying_output : (says : Reports B) → DecodesAs calls (copies calls says) → ⊥
  -- "All the work in pass 0, later passes for show: demand 2 fixes the output for each limit."
  pub working_once : (d : Decoder B) → DecodesAs calls (works_once d) → ⊥
  -- "A made-up iteration number: it must be the pass at which the equations first hold": decoders that count their passes say the same, so
  -- none has a number of its own, or tests only every second pass
  pub made_up : (d e : Decoder B) → CountsPasses calls d → CountsPasses calls e → (code : ℕ) (b : B) (limit : ℕ) → calls.answer code b limit ≡ 0
      → ((d code b limit).report.success ≡ (e code b limit).report.success) × ((d code b limit).report.iters ≡ (e code b limit).report.iters)
  -- and no one number will do
  pub one_number : (d : Decoder B) (n : ℕ) → CountsPasses calls (renumbered (λ code b limit. n) d) → ⊥
  -- "Demand 3's last two sentences alone suit a decoder that never succeeds; demand 2 rules that out."
  pub never_succeeding : (d : Decoder B) → DecodesAs calls (fails d) → ⊥

-- ---- and none puts one flipped bit right
pub record NoIdleCorrector {B : Type 0} (calls : Receiving B) (plain : B → Type 0) : Type 0 where
  -- never succeeding
  pub failing : (d : Decoder B) → FewFlipsReturn calls plain 1 (fails d) → ⊥
  -- copying, and doing nothing, whatever they say
  pub copying : (says : Reports B) → FewFlipsReturn calls plain 1 (copies calls says) → ⊥
  pub resting : (says : Reports B) → FewFlipsReturn calls plain 1 (rests calls says) → ⊥
  -- a made-up number: with one bit flipped it is 1, so no one number will do
  pub made_up : (number : ℕ → B → ℕ → ℕ) (d : Decoder B) → FewFlipsReturn calls plain 1 (renumbered number d) → (code : ℕ) (b : B) (limit : ℕ) (frame : List ℕ)
      → TC code → Sent code frame → calls.answer code b limit ≡ 0 → plain b → distance frame (calls.word b) ≡ 1 → 2 ≤ limit → number code b limit ≡ 1
  pub one_number : (n : ℕ) (d : Decoder B) → FewFlipsReturn calls plain 1 (renumbered (λ code b limit. n) d) → ⊥

-- ---- nor do those that fail, rest, copy or have one answer complete an unchanged frame of a TM code; for that pass 0 is enough
pub record NoIdleCompleter {B : Type 0} (calls : Receiving B) : Type 0 where
  -- never succeeding, and one fixed answer
  pub failing : (d : Decoder B) → FrameCompletes calls (fails d) → ⊥
  pub one_answer : (x : Told) → FrameCompletes calls (decodes_alike x) → ⊥
  -- doing nothing, and copying, whatever they say: a refusal is among what they may say
  pub resting : (says : Reports B) → FrameCompletes calls (rests calls says) → ⊥
  pub copying : (says : Reports B) → FrameCompletes calls (copies calls says) → ⊥
  -- a made-up number: it is 0
  pub made_up : (number : ℕ → B → ℕ → ℕ) (d : Decoder B) → FrameCompletes calls (renumbered number d) → (code : ℕ) (b : B) (limit : ℕ)
      → TM code → Sent code (calls.word b) → calls.answer code b limit ≡ 0 → 1 ≤ limit → number code b limit ≡ 0

-- ---- "Adding messages in another order: saturating sums depend on it.": min-sum that adds them from the last edge to the first
module _ {C : Type 0} (o : Confidence C) (es : List Edge) (checks punctured : ℕ) (llrs : List C) where
  abbrev pub backwards_pass : Messages C → Messages C
  backwards_pass s =
      fold (take_message o) (numbered 0 es) (renewed o checks (fold (add_message o) (reverse (numbered 0 es)) (restarted o llrs punctured s)))

  abbrev pub backwards_turn : Messages C → Turn (Messages C)
  backwards_turn s = let t = backwards_pass s in pick (met o es checks punctured llrs t) (stop t) (go t)

abbrev pub adds_backwards : {C : Type 0} → Confidence C → Decoder (SoftBuffers C)
adds_backwards o code b limit =
    let es = edges code in
    let m = checks_in code in
    let p = (row_of code).punctured_bits in
    let e = run (backwards_turn o es m p b.llrs) limit 0 (start o es m p b.llrs) in
    told (ending e.success e.turns) (to_hard o e.state.marginals)
