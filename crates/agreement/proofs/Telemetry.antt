-- Sender and receiver of a TM code: a sent frame has exactly one completion, bit flipping returns it, and few flipped bits are noticed. A decoder that
-- fails, rests, copies or has one answer does not return it. Assumes nothing.
use mathlib.Core.Bool.{true}
use mathlib.Core.List.{List, ◌∷◌}
use mathlib.Core.Path.{◌≡◌, refl, ap, ◌∙◌}
use Prim.Native.Nat.{ℕ, ◌+◌, ◌/◌, ◌%◌, ◌≤◌, ◌<◌}
use native.Mathlib.Omega.{arith}
use lib.ListN.{length, take}
use Rattle.maths.specs.Bits.{bit_at}
use Rattle.maths.specs.Distance.{distance}
use Rattle.maths.proofs.Tests.{never}
use Rattle.codes.specs.Codes.{TM, rows, row_of}
use Rattle.codes.specs.Frames.{encoded_bytes}
use Rattle.report.specs.declared.Report.{Report}
use Rattle.report.specs.Report.{ending}
use Rattle.telemetry.specs.Completion.{completion_bytes, Completes}
use Rattle.telemetry.proofs.Clean.{completes_once, completes_front}
use Rattle.tm_distance.proofs.Frames.{frame_four}
use Rattle.tm_distance.proofs.Near.{near_completes}
use Rattle.agreement.specs.Parties.{Sent, by_copy_encode, Success}
use Rattle.agreement.specs.Demands.{Decoder, FrameCompletes}
use Rattle.agreement.specs.Ours.{HardBuffers, bit_flipping}
use Rattle.agreement.specs.Examples.{zeros}
use Rattle.agreement.specs.Demand3.{Telemetry}
use Rattle.agreement.specs.Idle.{fails, rests, decodes_alike, copies, NoIdleCompleter}
use Rattle.agreement.proofs.Sender.{sent_length, sent_bytes, sent_completes}
use Rattle.agreement.proofs.BitFlip.{bit_flip_telemetry, flipping_lent, flipping_accepted, flipping_told}
use Rattle.agreement.proofs.Received.{succeeded, returned}
use Rattle.agreement.proofs.Idle.{bytes_then}

-- a success near a sent frame
module _ {code : ℕ} {frame : List ℕ} (tm : TM code) (sent : Sent code frame) where
  full : Completes code frame (completion_bytes code frame)
  full = sent_completes sent tm

  once : {word : List ℕ} → Completes code frame word → word ≡ completion_bytes code frame
  once {word} c = completes_once code tm frame word (completion_bytes code frame) c full

  near : (received : List ℕ) {word : List ℕ} → length received ≡ (row_of code).n / 8
      → distance frame received + distance received (take ((row_of code).n / 8) word) ≤ 3 → Success code word
      → (take ((row_of code).n / 8) word ≡ frame) × (word ≡ completion_bytes code frame)
  near received {word} long few s =
      let y = succeeded s in
      let c = near_completes code tm frame (completion_bytes code frame) (sent_bytes sent) (sent_length sent) full received word long few y.long y.bytes y.meets in
      (completes_front code tm frame word (sent_bytes sent) (sent_length sent) c, once c)

  pub telemetry : Telemetry code frame
  telemetry =
      record {
        sent_completes = full;
        sent_completes_once = once;
        frame_in_front = completes_front code tm frame (completion_bytes code frame) (sent_bytes sent) (sent_length sent) full;
        unchanged_telemetry = λ {limit} c k. returned (flipping_told c ∙ bit_flip_telemetry code (flipping_lent c) limit tm sent (flipping_accepted c) k);
        telemetry_noticed = λ {received} {word} some few s e.
            let four = frame_four code tm frame (completion_bytes code frame) (sent_bytes sent) (sent_length sent) full word (succeeded s).meets in
            omega (arith, few, rw e at (four (rw e some)));
        telemetry_corrected = λ received long one by s. near received long (omega arith) s;
        telemetry_near = λ received long few s. near received long few s;
      }

-- ---- idle versions: two messages of TM1280, their frames, and calls with a limit of 1, which are accepted
abbrev message : ℕ → List ℕ
message x = x ∷ zeros 127

abbrev frame_by : ℕ → List ℕ
frame_by x = encoded_bytes 3 (message x)

abbrev lent : ℕ → HardBuffers
lent x = record { input = frame_by x; output = 0xff ∷ zeros 175; working = zeros 1408 }

frame_sent : (x : ℕ) → x < 256 → Sent 3 (frame_by x)
unfolding rows
frame_sent x h = by_copy_encode 0 (message x) (zeros 160) (bytes_then x 127 h) refl refl

frame_long : (x : ℕ) → x < 256 → length (frame_by x) ≡ 160
unfolding rows
frame_long x h = sent_length (frame_sent x h)

lent_accepted : (x : ℕ) → x < 256 → bit_flipping.answer 3 (lent x) 1 ≡ 0
unfolding rows
lent_accepted x h = rw (frame_long x h)

module _ (d : Decoder HardBuffers) (r : FrameCompletes bit_flipping d) (x : ℕ) (h : x < 256) where
  -- what such a decoder leaves of a frame
  completed : ((d 3 (lent x) 1).report ≡ ending true 0) × Completes 3 (frame_by x) (d 3 (lent x) 1).output
  completed = r 3 (lent x) 1 (omega arith, omega arith) (frame_sent x h) (lent_accepted x h) (omega arith)

  -- its first bit is the message's
  first_bit : bit_at (d 3 (lent x) 1).output 0 ≡ x / 128 % 2
  unfolding rows encoded_bytes
  first_bit = completed.1.front 0 (omega arith)

pub bit_flip_no_idle_completer : NoIdleCompleter bit_flipping
unfolding rows
bit_flip_no_idle_completer =
    record {
      failing = λ d r. never refl (ap (λ (x : Report). x.success) (completed (fails d) r 0 (omega arith)).0);
      one_answer = λ x r. omega (arith, first_bit (decodes_alike x) r 0 (omega arith), first_bit (decodes_alike x) r 0xff (omega arith));
      resting = λ says r. omega (arith, first_bit (rests bit_flipping says) r 0 (omega arith));
      copying = λ says r. omega (arith, frame_long 0 (omega arith), (completed (copies bit_flipping says) r 0 (omega arith)).1.long);
      made_up = λ number d r code b limit tm sent h k. ap (λ (x : Report). x.iters) (r code b limit tm sent h k).0;
    }
