-- Bit flipping meets the demands on a decoder. Assumes nothing.
use mathlib.Core.Bool.{true}
use mathlib.Core.List.{List}
use mathlib.Core.Path.{◌≡◌, refl, sym, ap, ◌∙◌, subst}
use Prim.Native.Nat.{ℕ, ◌≤◌}
use native.Mathlib.Nat.{add-zero}
use native.Mathlib.Decide.{ℕ_discrete}
use borrow.Author.Tests.{ne_eqb}
use lib.ListN.{length, replicate}
use Rattle.maths.specs.Tests.{Anything}
use Rattle.maths.proofs.Tests.{never}
use Rattle.maths.specs.Bytes.{Bytes}
use Rattle.maths.proofs.Bytes.{length_pack, bytes_pack}
use Rattle.codes.specs.Codes.{TM, row_of, bits_in, checks_in}
use Rattle.codes.specs.Edges.{edges}
use Rattle.codes.specs.Equations.{word_of}
use Rattle.runs.specs.Meets.{holds}
use Rattle.report.specs.Report.{refusal, ending, Told, told}
use Rattle.bit_flip.specs.Flip.{flipped, turn, passes}
use Rattle.bit_flip.specs.Erasures.{erasure_passes}
use Rattle.bit_flip.specs.Outcome.{Outcome, left, told_flip, decode_word, received, punctured, decoded, outcome}
use Rattle.bit_flip.proofs.Theorems.{answer_of, is_accepted, success_meets, clean}
use Rattle.telemetry.specs.Completion.{completion_bytes, Completes}
use Rattle.telemetry.proofs.Clean.{unchanged}
use Rattle.agreement.specs.Parties.{Sent, ByFlipping}
use Rattle.agreement.specs.Demands.{DecodesByTable, SuccessMeets, FrameReturns, FrameCompletes, CountsPasses, DecodesAs}
use Rattle.agreement.specs.Ours.{HardBuffers, bit_flip, flipped_in, bit_flipping}
use Rattle.agreement.proofs.Sender.{of_message, sent_bytes, sent_meets, sent_completes}
use Rattle.agreement.proofs.Counting.{run_counted}

-- a call is accepted, or refused by a number
module _ (code : ℕ) (b : HardBuffers) (limit : ℕ) where
  accepted_is : bit_flipping.answer code b limit ≡ 0 → outcome code b.input b.output b.working limit ≡ decoded code b.input limit
  accepted_is h = is_accepted code b.input b.output b.working limit h

  refused_is : (bit_flipping.answer code b limit ≡ 0 → ⊥)
      → outcome code b.input b.output b.working limit ≡ left (refusal (bit_flipping.answer code b limit)) b.output b.working
  unfolding outcome
  refused_is h = rw (ne_eqb (bit_flipping.answer code b limit) 0 h)

  -- a success was accepted
  pub bit_flip_accepted : (bit_flip code b limit).report.success ≡ true → bit_flipping.answer code b limit ≡ 0
  bit_flip_accepted e = by (ℕ_discrete (bit_flipping.answer code b limit) 0)
    where
      by : Dec (bit_flipping.answer code b limit ≡ 0) → bit_flipping.answer code b limit ≡ 0
      by (yes h) = h
      by (no h) = absurd (never (ap (λ (x : Outcome). x.report.success) (refused_is h)) e)

  -- the output is bytes, as many as the code has
  module _ (h : bit_flipping.answer code b limit ≡ 0) where
    pub bit_flip_length : length (bit_flip code b limit).output ≡ (row_of code).output_len
    unfolding decoded
    bit_flip_length = rw (accepted_is h) (length_pack _ (row_of code).output_len)

    pub bit_flip_bytes : Bytes (bit_flip code b limit).output
    unfolding decoded
    bit_flip_bytes = rw (accepted_is h) (bytes_pack _ (row_of code).output_len)

pub bit_flip_table : DecodesByTable bit_flipping bit_flip
unfolding decoded decode_word
bit_flip_table code b limit = by (ℕ_discrete (bit_flipping.answer code b limit) 0)
  where
    by : Dec (bit_flipping.answer code b limit ≡ 0) → (bit_flip code b limit).report.answer ≡ bit_flipping.answer code b limit
    by (yes h) = ap (λ (x : Outcome). x.report.answer) (accepted_is code b limit h) ∙ sym h
    by (no h) = ap (λ (x : Outcome). x.report.answer) (refused_is code b limit h)

pub bit_flip_meets : SuccessMeets bit_flipping bit_flip
bit_flip_meets code b limit = success_meets code b.input b.output b.working limit

pub bit_flip_returns : FrameReturns bit_flipping bit_flip Anything
bit_flip_returns code b limit tc sent h any k =
    ap told_flip (clean code b.input b.output b.working limit tc h (sent_bytes sent) (sent_meets sent tc) k)

-- what an accepted call leaves of a sent TM frame: the frame completed
pub bit_flip_telemetry : (code : ℕ) (b : HardBuffers) (limit : ℕ) → TM code → Sent code b.input → bit_flipping.answer code b limit ≡ 0 → 1 ≤ limit
    → bit_flip code b limit ≡ told (ending true 0) (completion_bytes code b.input)
bit_flip_telemetry code b limit tm sent h k =
    ap told_flip
    (of_message sent (λ s. answer_of code s b.output b.working ≡ 0
    → outcome code s b.output b.working limit ≡ left (ending true 0) (completion_bytes code s) (replicate (bits_in code) 0))
    (λ msg bytes len e. unchanged code tm msg len b.output b.working limit e k) h)

pub bit_flip_completes : FrameCompletes bit_flipping bit_flip
bit_flip_completes code b limit tm sent h k =
    let e = bit_flip_telemetry code b limit tm sent h k in
    (ap (λ (x : Told). x.report) e, subst (Completes code b.input) (sym (ap (λ (x : Told). x.output) e)) (sent_completes sent tm))

-- ---- an accepted call: what it was lent, and what it told
module _ {code : ℕ} {received : List ℕ} {limit : ℕ} {x : Told} (c : ByFlipping code received limit x) where
  abbrev pub flipping_lent : HardBuffers
  flipping_lent = record { input = received; output = c.old; working = c.working }

  pub flipping_accepted : bit_flipping.answer code flipping_lent limit ≡ 0
  flipping_accepted = sym (bit_flip_table code flipping_lent limit) ∙ sym (ap (λ (y : Outcome). y.report.answer) c.promise) ∙ c.accepted

  pub flipping_told : x ≡ bit_flip code flipping_lent limit
  flipping_told = ap told_flip c.promise

-- the report of the main passes: the erasure pass counts no iteration
abbrev begun : ℕ → List ℕ → ℕ → List ℕ
begun code input limit = (erasure_passes (punctured code) (edges code) (row_of code).punctured_bits limit (received code input)).word

report_is : (code : ℕ) (input : List ℕ) (limit : ℕ) → let e = passes (edges code) (checks_in code) limit (begun code input limit) in
    (decoded code input limit).report ≡ ending e.success e.turns
unfolding decoded decode_word erasure_passes
report_is code input limit = ap (ending _) (add-zero _)

pub bit_flip_counts : CountsPasses bit_flipping bit_flip
unfolding turn
bit_flip_counts code b limit h =
    run_counted code (flipped_in code b.input limit) (turn (edges code) (checks_in code)) (λ w. holds (edges code) (checks_in code) (word_of w)) (flipped (edges code)) (λ w. w)
    (λ w. refl) (begun code b.input limit) (λ i. refl) limit (ap (λ (x : Outcome). x.report) (accepted_is code b limit h) ∙ report_is code b.input limit)

pub bit_flip_steps : DecodesAs bit_flipping bit_flip
bit_flip_steps code b limit h = ap told_flip (accepted_is code b limit h)
