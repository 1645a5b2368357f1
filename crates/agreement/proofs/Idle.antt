-- No idle version meets the demands: calls on TC128 tell each from ours, for both encoders and both decoders. Assumes nothing.
use mathlib.Core.List.{List, ◌∷◌}
use mathlib.Core.Bool.{true, false}
use mathlib.Core.Path.{◌≡◌, refl, sym, ap, ◌∙◌}
use Prim.Native.Nat.{ℕ, zero, suc, ◌%◌, ◌≤◌, ◌<◌}
use native.Mathlib.Omega.{arith}
use lib.IntN.{pos, negsuc}
use lib.ListN.{length, get_or}
use Rattle.maths.specs.Tests.{Anything}
use Rattle.maths.proofs.Tests.{never}
use Rattle.maths.specs.Bits.{bit_at}
use Rattle.maths.specs.Bytes.{Bytes}
use Rattle.maths.specs.Distance.{distance}
use Rattle.maths.proofs.Slices.{replicate_at}
use Rattle.codes.specs.Codes.{rows}
use Rattle.codes.specs.Frames.{frame_of, encoded_bytes}
use Rattle.matrices.proofs.Edges.{meets_same}
use Rattle.matrices.proofs.Encoded.{encoded_meets, encoded_bits}
use Rattle.report.specs.Report.{ending, Told, told}
use Rattle.min_sum.specs.Confidence.{i8}
use Rattle.min_sum.specs.Soft.{hard}
use Rattle.min_sum.proofs.Conversions.{llrs_hard}
use Rattle.soft_flip.proofs.Frames.{llrs_one_size}
use Rattle.agreement.specs.Parties.{Sent, by_copy_encode}
use Rattle.agreement.specs.Demands.{Sending, Decoder, Receiving, FrameReturns, CountsPasses, DecodesAs, FewFlipsReturn}
use Rattle.agreement.specs.Ours.{encoding, copy_encoding, bit_flip, bit_flipping, min_sum, min_summing, one_sized}
use Rattle.agreement.specs.Examples.{zeros}
use Rattle.agreement.specs.Idle.{NoIdleEncoder, rests, fails, decodes_alike, copies, works_once, renumbered, NoIdleDecoder, NoIdleCorrector}
use Rattle.agreement.proofs.Sender.{sent_bytes, sent_length, sent_meets}
use Rattle.agreement.proofs.Zeros.{zero_frame}
use Rattle.agreement.proofs.Counting.{counted_one}
use Rattle.agreement.proofs.BitFlip.{bit_flip_returns, bit_flip_counts, bit_flip_steps}
use Rattle.agreement.proofs.MinSum.{whole_returns, min_sum_counts, min_sum_steps}
use Rattle.agreement.proofs.Passes.{spoilt, hard_lent, soft_lent, spoilt_unmet, flip_misses, flip_moves, soft_accepted, soft_misses, soft_moves}

-- ---- two messages, and their frames
pub bytes_then : (x n : ℕ) → x < 256 → Bytes (x ∷ zeros n)
bytes_then x n h zero l = h
bytes_then x n h (suc i) l = rw (replicate_at {A = ℕ} n 0 i) (omega arith)

abbrev message : ℕ → List ℕ
message x = x ∷ zeros 7

abbrev frame : ℕ → List ℕ
frame x = encoded_bytes 0 (message x)

frame_sent : (x : ℕ) → x < 256 → Sent 0 (frame x)
unfolding rows
frame_sent x h = by_copy_encode 0 (message x) spoilt (bytes_then x 7 h) refl refl

frames_apart : frame 0 ≡ frame 0xff → ⊥
unfolding encoded_bytes
frames_apart e = let z : ◌≡◌ {A = ℕ} 0 255 = ap (λ (s : List ℕ). get_or s 0 0) e in omega arith

-- the first frame, and with its first bit flipped
frame_zeros : frame 0 ≡ zeros 16
unfolding rows
frame_zeros = zero_frame 0 (omega arith)

abbrev damaged : List ℕ
damaged = 0x80 ∷ zeros 15

one_flipped : distance (frame 0) damaged ≡ 1
unfolding distance
one_flipped = rw frame_zeros

-- ---- encoders: calls that are accepted, and bring such a message
record Sends {B : Type 0} (calls : Sending B) : Type 0 where
  lend : ℕ → B
  accepted : (x : ℕ) → calls.answer 0 (lend x) ≡ 0
  brings : (x : ℕ) → calls.message 0 (lend x) ≡ message x
  before : calls.codeword (lend 0xff) ≡ spoilt

module _ {B : Type 0} {calls : Sending B} (c : Sends calls) where
  -- bit 0 of the frame of a message is its own
  first_bit : (s : List ℕ) (x : ℕ) → ((v : ℕ) → v < 128 → bit_at s v ≡ frame_of 0 (bit_at (calls.message 0 (c.lend x))) v) → bit_at s 0 ≡ bit_at (message x) 0
  unfolding rows
  first_bit s x is = is 0 (omega arith) ∙ rw (c.brings x)

  no_idle_encoder : NoIdleEncoder calls
  unfolding rows
  no_idle_encoder =
      record {
        refusing = λ number low table. omega (arith, low 0 (c.lend 0), table 0 (c.lend 0) ∙ c.accepted 0);
        one_answer = λ x frames.
            let zero_bit : bit_at x.codeword 0 ≡ 0 = first_bit x.codeword 0 (frames 0 (c.lend 0) (c.accepted 0)) in
            let one_bit : bit_at x.codeword 0 ≡ 1 = first_bit x.codeword 0xff (frames 0 (c.lend 0xff) (c.accepted 0xff)) in
            omega arith;
        resting = λ answers frames.
            spoilt_unmet (meets_same 0 (omega arith) (bit_at (frame 0xff)) (bit_at spoilt) (λ v h. ap (λ (x : ℕ). x % 2)
            (encoded_bits 0 (omega arith) (message 0xff) refl v h ∙ sym ((rw (c.before, c.brings 0xff) at (frames 0 (c.lend 0xff) (c.accepted 0xff))) v h)))
            (encoded_meets 0 (omega arith) (message 0xff) refl));
        resting_frame = λ answers meets. spoilt_unmet (rw c.before at (meets 0 (c.lend 0xff) (omega arith) (c.accepted 0xff)));
      }

pub encode_no_idle : NoIdleEncoder encoding
unfolding rows
encode_no_idle = no_idle_encoder (record { lend = λ x. x ∷ zeros 15; accepted = λ x. refl; brings = λ x. refl; before = refl })

pub copy_no_idle : NoIdleEncoder copy_encoding
unfolding rows
copy_no_idle = no_idle_encoder (record { lend = λ x. record { message = message x; codeword = spoilt }; accepted = λ x. refl; brings = λ x. refl; before = refl })

-- ---- decoders: calls that are accepted with a limit of at most 2, and bring a given word, and what ours does with them
record Receives {B : Type 0} (calls : Receiving B) (plain : B → Type 0) (ours : Decoder B) : Type 0 where
  lend : List ℕ → B
  is_plain : (s : List ℕ) → plain (lend s)
  accepted : (s : List ℕ) → length s ≡ 16 → (limit : ℕ) → limit ≤ 2 → calls.answer 0 (lend s) limit ≡ 0
  brings : (s : List ℕ) → Bytes s → calls.word (lend s) ≡ s
  before : (s : List ℕ) → calls.output (lend s) ≡ spoilt
  misses : (ours 0 (lend spoilt) 1).report.success ≡ false
  moves : (ours 0 (lend spoilt) 1).output ≡ (ours 0 (lend spoilt) 2).output → ⊥
  returns : FrameReturns calls ours plain
  counts : CountsPasses calls ours
  follows : DecodesAs calls ours

module _ {B : Type 0} {calls : Receiving B} {plain : B → Type 0} {ours : Decoder B} (c : Receives calls plain ours) where
  frame_accepted : (x : ℕ) → x < 256 → calls.answer 0 (c.lend (frame x)) 1 ≡ 0
  unfolding rows
  frame_accepted x h = c.accepted (frame x) (sent_length (frame_sent x h)) 1 (omega arith)

  -- a frame that comes back
  returned : (d : Decoder B) → FrameReturns calls d plain → (x : ℕ) → x < 256 → d 0 (c.lend (frame x)) 1 ≡ told (ending true 0) (frame x)
  returned d r x h =
      let e = c.brings (frame x) (sent_bytes (frame_sent x h)) in
      r 0 (c.lend (frame x)) 1 (omega arith) (rw e (frame_sent x h)) (frame_accepted x h) (c.is_plain (frame x)) (omega arith) ∙ rw e

  spoilt_accepted : (limit : ℕ) → limit ≤ 2 → calls.answer 0 (c.lend spoilt) limit ≡ 0
  spoilt_accepted = c.accepted spoilt refl

  spoilt_once : calls.answer 0 (c.lend spoilt) 1 ≡ 0
  spoilt_once = spoilt_accepted 1 (omega arith)

  -- whoever follows the steps leaves what ours leaves
  as_ours : (d : Decoder B) → DecodesAs calls d → (s : List ℕ) (limit : ℕ) → calls.answer 0 (c.lend s) limit ≡ 0 → d 0 (c.lend s) limit ≡ ours 0 (c.lend s) limit
  as_ours d same s limit h = same 0 (c.lend s) limit h ∙ sym (c.follows 0 (c.lend s) limit h)

  -- and not the same output after one pass and after two
  not_still : (d : Decoder B) → DecodesAs calls d → (d 0 (c.lend spoilt) 1).output ≡ (d 0 (c.lend spoilt) 2).output → ⊥
  not_still d same e =
      c.moves (ap (λ (x : Told). x.output) (sym (as_ours d same spoilt 1 spoilt_once)) ∙ e ∙ ap (λ (x : Told). x.output) (as_ours d same spoilt 2 (spoilt_accepted 2 (omega arith))))

  no_idle_decoder : NoIdleDecoder calls plain
  no_idle_decoder =
      let b = c.lend spoilt in
      record {
        refusing = λ number low table. omega (arith, low 0 b 1, table 0 b 1 ∙ spoilt_once);
        failing = λ d r. never refl (ap (λ (x : Told). x.report.success) (returned (fails d) r 0 (omega arith)));
        one_answer = λ x r. frames_apart (ap (λ (y : Told). y.output) (sym (returned (decodes_alike x) r 0 (omega arith)) ∙ returned (decodes_alike x) r 0xff (omega arith)));
        resting = λ says true_said meets. spoilt_unmet (rw (c.before spoilt) at (meets 0 b 1 (true_said 0 b 1 spoilt_once (omega arith))));
        copying = λ says true_said meets.
            spoilt_unmet (rw (c.brings spoilt (bytes_then 0xff 15 (omega arith))) at (meets 0 b 1 (true_said 0 b 1 spoilt_once (omega arith))));
        resting_frame = λ says r.
            let e : spoilt ≡ frame 0 = sym (c.before (frame 0)) ∙ ap (λ (x : Told). x.output) (returned (rests calls says) r 0 (omega arith)) in
            spoilt_unmet (rw e (sent_meets (frame_sent 0 (omega arith)) (omega arith)));
        copying_output = λ says same. not_still (copies calls says) same refl;
        working_once = λ d same. not_still (works_once d) same refl;
        made_up = λ d e x y code b limit h. counted_one (x code b limit h) (y code b limit h);
        one_number = λ d n counts.
            let same : (s : List ℕ) → calls.answer 0 (c.lend s) 1 ≡ 0 → n ≡ (ours 0 (c.lend s) 1).report.iters =
            λ s h. (counted_one (counts 0 (c.lend s) 1 h) (c.counts 0 (c.lend s) 1 h)).1 in
            let none : n ≡ 0 = same (frame 0) (frame_accepted 0 (omega arith)) ∙ ap (λ (x : Told). x.report.iters) (returned ours c.returns 0 (omega arith)) in
            let one : n ≡ 1 = same spoilt spoilt_once ∙ (c.counts 0 b 1 spoilt_once).spent c.misses in
            omega arith;
        never_succeeding = λ d same.
            never refl (ap (λ (x : Told). x.report.success) (as_ours (fails d) same (frame 0) 1 (frame_accepted 0 (omega arith)) ∙ returned ours c.returns 0 (omega arith)));
      }

-- ---- one flipped bit, in calls that bring their bits plain
module _ {B : Type 0} {calls : Receiving B} {ours : Decoder B} (c : Receives calls Anything ours) (plain : B → Type 0) (is_plain : (s : List ℕ) → plain (c.lend s)) where
  put_right : (d : Decoder B) → FewFlipsReturn calls plain 1 d → d 0 (c.lend damaged) 2 ≡ told (ending true 1) (frame 0)
  put_right d f =
      let e : distance (frame 0) (calls.word (c.lend damaged)) ≡ 1 = rw (c.brings damaged (bytes_then 0x80 15 (omega arith))) one_flipped in
      f.one 0 (c.lend damaged) 2 (frame 0) (omega arith) (frame_sent 0 (omega arith)) (c.accepted damaged refl 2 (omega arith)) (is_plain damaged) e (omega arith)

  -- and so the output is the frame
  put_out : (d : Decoder B) (s : List ℕ) → FewFlipsReturn calls plain 1 d → (d 0 (c.lend damaged) 2).output ≡ s → get_or s 0 0 ≡ 0
  put_out d s f e = ap (λ (x : List ℕ). get_or x 0 0) (sym e ∙ ap (λ (x : Told). x.output) (put_right d f) ∙ frame_zeros)

  no_idle_corrector : NoIdleCorrector calls plain
  no_idle_corrector =
      record {
        failing = λ d f. never refl (ap (λ (x : Told). x.report.success) (put_right (fails d) f));
        copying = λ says f. omega (arith, put_out (copies calls says) damaged f (c.brings damaged (bytes_then 0x80 15 (omega arith))));
        resting = λ says f. omega (arith, put_out (rests calls says) spoilt f (c.before damaged));
        made_up = λ number d f code b limit s tc sent h p e k. ap (λ (x : Told). x.report.iters) (f.one code b limit s tc sent h p e k);
        one_number = λ n d f.
            let same : Decoder B = renumbered (λ code b limit. n) d in
            let none : n ≡ 0 = ap (λ (x : Told). x.report.iters) (returned c same f.unchanged 0 (omega arith)) in
            let one : n ≡ 1 = ap (λ (x : Told). x.report.iters) (put_right same f) in
            omega arith;
      }

-- of bit flipping and of min-sum
flip_receives : Receives bit_flipping Anything bit_flip
unfolding rows
flip_receives =
    record {
      lend = hard_lent;
      is_plain = λ s. tt;
      accepted = λ s e limit few. rw e;
      brings = λ s bytes. refl;
      before = λ s. refl;
      misses = flip_misses;
      moves = flip_moves;
      returns = bit_flip_returns;
      counts = bit_flip_counts;
      follows = bit_flip_steps;
    }

soft_receives : Receives (min_summing i8) Anything (min_sum i8)
unfolding hard
soft_receives =
    record {
      lend = soft_lent;
      is_plain = λ s. tt;
      accepted = soft_accepted;
      brings = llrs_hard i8 (negsuc 99) (pos 100) refl refl refl;
      before = λ s. refl;
      misses = soft_misses;
      moves = soft_moves;
      returns = whole_returns 127;
      counts = min_sum_counts i8;
      follows = min_sum_steps i8;
    }

pub bit_flip_no_idle : NoIdleDecoder bit_flipping Anything
bit_flip_no_idle = no_idle_decoder flip_receives

pub min_sum_no_idle : NoIdleDecoder (min_summing i8) Anything
min_sum_no_idle = no_idle_decoder soft_receives

pub bit_flip_no_idle_corrector : NoIdleCorrector bit_flipping Anything
bit_flip_no_idle_corrector = no_idle_corrector flip_receives Anything (λ s. tt)

pub min_sum_no_idle_corrector : NoIdleCorrector (min_summing i8) (one_sized 127)
unfolding soft_receives
min_sum_no_idle_corrector = no_idle_corrector soft_receives (one_sized 127) (λ s. (99, omega arith, llrs_one_size 99 s))
