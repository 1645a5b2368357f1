-- Demand 3, and what more holds between a sender and a receiver: each sentence is a field. Assumes nothing.
use Rattle.std.specs.Prelude.{true, false, List, [], ◌∷◌, ◌⊎◌, ◌≡◌, ℕ, suc, ◌+◌, ◌*◌, ◌/◌, ◌%◌, ◌≤◌, ◌<◌, pos, negsuc, length, take}
use Rattle.maths.specs.Bits.{bit_at}
use Rattle.maths.specs.Distance.{distance, places}
use Rattle.codes.specs.Codes.{TC, TM, row_of}
use Rattle.codes.specs.Edges.{edges}
use Rattle.codes.specs.Equations.{Meets}
use Rattle.report.specs.Report.{Told}
use Rattle.two_flips.specs.Flips.{PairFlips}
use Rattle.telemetry.specs.Completion.{completion_bytes, Completes}
use Rattle.min_sum.specs.Confidence.{Confidence, whole}
use Rattle.agreement.specs.Parties.{Sent, Success, ByFlipping, ByMinSum, Returned}

-- ---- a frame of a TC code that was sent
pub record Telecommand {C : Type 0} (o : Confidence C) (minus plus : C) (code : ℕ) (frame : List ℕ) : Type 1 where
  -- "an encoded frame comes back the same with success at iteration 0": it meets the equations, and the limit is at least 1
  pub sent_meets : Meets code (bit_at frame)
  pub unchanged_bit_flipping : {limit : ℕ} {x : Told} → ByFlipping code frame limit x → 1 ≤ limit → Returned true 0 frame x
  pub unchanged_min_sum : {limit : ℕ} {x : Told} → ByMinSum o minus plus code frame limit x → 1 ≤ limit → Returned true 0 frame x
  -- "with one or two bits flipped no decoder calls the received word itself good": one to nine, or any odd number, whatever a decoder reads
  pub damage_noticed : {received : List ℕ}
      → ((0 < distance frame received) × (distance frame received < 10)) ⊎ (distance frame received % 2 ≡ 1) → Success code received → ⊥
  -- "with at most one flipped, a successful answer within one bit of what was received is the frame sent"
  pub one_corrected : (received : List ℕ) {output : List ℕ} → length received ≡ (row_of code).n / 8
      → distance frame received ≤ 1 → distance received output ≤ 1 → Success code output → output ≡ frame
  -- with up to four, one within five bits
  pub four_corrected : (received : List ℕ) {output : List ℕ} → length received ≡ (row_of code).n / 8
      → distance frame received ≤ 4 → distance received output ≤ 5 → Success code output → output ≡ frame
  -- and so with any number, where the way from the frame over what was received to the answer is of nine bits at most
  pub near_success : (received : List ℕ) {output : List ℕ} → length received ≡ (row_of code).n / 8
      → distance frame received + distance received output ≤ 9 → Success code output → output ≡ frame
  -- beyond the demand: bit flipping puts one flipped bit right; with a limit of 1 the frame is the output too, but with no success
  pub one_put_right : {received : List ℕ} {limit : ℕ} {x : Told} → ByFlipping code received limit x
      → distance frame received ≡ 1 → 2 ≤ limit → Returned true 1 frame x
  pub one_seen_late : {received : List ℕ} {limit : ℕ} {x : Told} → ByFlipping code received limit x
      → distance frame received ≡ 1 → limit ≡ 1 → Returned false 1 frame x
  -- two flipped bits it puts right at iteration 1, 2 or 3, by their edges
  pub two_put_right : {received : List ℕ} {limit : ℕ} {x : Told} → ByFlipping code received limit x → distance frame received ≡ 2 → 4 ≤ limit
      → (a b k : ℕ) × (places frame received ≡ a ∷ b ∷ []) × PairFlips (edges code) a b k × Returned true k frame x
  -- and any errors it answers as it would these bits alone, with the frame added: what becomes of them does not depend on the data
  pub errors_alone : {received errors : List ℕ} {limit : ℕ} {x y : Told} → ByFlipping code received limit x → ByFlipping code errors limit y
      → ((v : ℕ) → v < 8 * length frame → bit_at received v ≡ (bit_at frame v + bit_at errors v) % 2)
      → (x.report ≡ y.report) × ((v : ℕ) → bit_at x.output v ≡ (bit_at frame v + bit_at y.output v) % 2)
  -- min-sum puts one flipped bit right, on whole numbers of one size; with a limit of 1 the output is what was received, with no success
  pub one_put_right_min_sum : {top k : ℕ} → suc k ≤ top → {received : List ℕ} {limit : ℕ} {x : Told}
      → ByMinSum (whole top) (negsuc k) (pos (suc k)) code received limit x → distance frame received ≡ 1 → 2 ≤ limit → Returned true 1 frame x
  pub one_seen_late_min_sum : {top k : ℕ} → suc k ≤ top → {received : List ℕ} {limit : ℕ} {x : Told}
      → ByMinSum (whole top) (negsuc k) (pos (suc k)) code received limit x → distance frame received ≡ 1 → limit ≡ 1 → Returned false 1 received x

-- ---- a frame of a TM code that was sent: what a decoder leaves begins with the bits that were sent
pub record Telemetry (code : ℕ) (frame : List ℕ) : Type 1 where
  -- it has exactly one completion, and stands in front of it
  pub sent_completes : Completes code frame (completion_bytes code frame)
  pub sent_completes_once : {word : List ℕ} → Completes code frame word → word ≡ completion_bytes code frame
  pub frame_in_front : take ((row_of code).n / 8) (completion_bytes code frame) ≡ frame
  -- unchanged, with a limit of at least 1, it comes back completed by bit flipping, with success at iteration 0
  pub unchanged_telemetry : {limit : ℕ} {x : Told} → ByFlipping code frame limit x → 1 ≤ limit → Returned true 0 (completion_bytes code frame) x
  -- with one to three bits flipped, no success begins with what was received
  pub telemetry_noticed : {received word : List ℕ} → 0 < distance frame received → distance frame received < 4
      → Success code word → take ((row_of code).n / 8) word ≡ received → ⊥
  -- with at most one flipped, a success whose first bits are within two of what was received begins with the frame, and is its completion
  pub telemetry_corrected : (received : List ℕ) {word : List ℕ} → length received ≡ (row_of code).n / 8
      → distance frame received ≤ 1 → distance received (take ((row_of code).n / 8) word) ≤ 2 → Success code word
      → (take ((row_of code).n / 8) word ≡ frame) × (word ≡ completion_bytes code frame)
  -- and so where the way from the frame over what was received to them is of three bits at most
  pub telemetry_near : (received : List ℕ) {word : List ℕ} → length received ≡ (row_of code).n / 8
      → distance frame received + distance received (take ((row_of code).n / 8) word) ≤ 3 → Success code word
      → (take ((row_of code).n / 8) word ≡ frame) × (word ≡ completion_bytes code frame)

-- ---- the demand, with min-sum on the confidences `o` that are `minus` for a 1 bit and `plus` for a 0 bit
pub record Demand3 {C : Type 0} (o : Confidence C) (minus plus : C) : Type 1 where
  -- "Whatever a decoder calls a success meets every parity equation": of all codes
  pub success_meets : {code : ℕ} {word : List ℕ} → Success code word → Meets code (bit_at word)
  -- "For the TC codes .."
  pub telecommand : {code : ℕ} {frame : List ℕ} → TC code → Sent code frame → Telecommand o minus plus code frame
  -- beyond the demand: for the TM codes
  pub telemetry : {code : ℕ} {frame : List ℕ} → TM code → Sent code frame → Telemetry code frame
