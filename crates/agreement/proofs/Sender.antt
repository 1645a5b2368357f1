-- What an encoder that accepts leaves is the frame of its message: `encode` and `copy_encode` meet the demands, and so does what is sent. Assumes nothing.
use mathlib.Core.List.{List}
use mathlib.Core.Path.{◌≡◌, refl, sym, ap, ◌∙◌, subst}
use Prim.Native.Nat.{ℕ, ◌/◌, ◌≤◌, ◌<◌}
use native.Mathlib.Omega.{arith}
use borrow.Author.Tests.{eq-eqb}
use lib.ListN.{length, take}
use lib.Seq.{length-take-le}
use Rattle.maths.specs.Bits.{bit_at}
use Rattle.maths.specs.Bytes.{Bytes}
use Rattle.maths.proofs.Bytes.{bytes_take}
use Rattle.codes.specs.Codes.{Known, TC, TM, row_of}
use Rattle.codes.specs.Equations.{Meets}
use Rattle.codes.specs.Frames.{frame_of, encoded_bytes}
use Rattle.codes.proofs.Answers.{all_passed, passed_known, passed_length}
use Rattle.matrices.proofs.Sizes.{sizes}
use Rattle.matrices.proofs.Encoded.{encoded_meets, encoded_length, encoded_bytes_lem, encoded_bits}
use Rattle.telemetry.specs.Completion.{completion_bytes, Completes}
use Rattle.telemetry.proofs.Clean as clean
use Rattle.encoder.specs.Outcomes.{Encoded, encoded, encode_tests, copy_tests, encode_outcome, copy_encode_outcome}
use Rattle.agreement.specs.Parties.{Sent, by_encode, by_copy_encode}
use Rattle.agreement.specs.Demands.{EncodesByTable, EncodesData, FrameMeets}
use Rattle.agreement.specs.Ours.{encoder, encoding, copy_encoder, copy_encoding}

-- ---- the frame of a message
pub record Frames (code : ℕ) (message frame : List ℕ) : Type 0 where
  pub is_known : Known code
  pub long : length message ≡ (row_of code).k / 8
  pub is : frame ≡ encoded_bytes code message

data_fits : (code : ℕ) (s : List ℕ) → Known code → length s ≡ (row_of code).n / 8 → (row_of code).k / 8 ≤ length s
data_fits code s h l = omega (arith, (sizes code h).data_fits)

pub encode_frames : (code : ℕ) (s : List ℕ) → (encode_outcome code s).answer ≡ 0 → Frames code (take ((row_of code).k / 8) s) (encode_outcome code s).codeword
encode_frames code s e =
    let q = all_passed (encode_tests code (length s)) tt e in
    let h = passed_known code q.0 in
    let l = passed_length (length s) ((row_of code).n / 8) q.1.0 in
    record { is_known = h; long = length-take-le ((row_of code).k / 8) s (data_fits code s h l); is = rw (eq-eqb _ 0 e) }

pub copy_frames : (code : ℕ) (m s : List ℕ) → (copy_encode_outcome code m s).answer ≡ 0 → Frames code m (copy_encode_outcome code m s).codeword
copy_frames code m s e =
    let q = all_passed (copy_tests code (length m) (length s)) tt e in
    record { is_known = passed_known code q.0; long = passed_length (length m) ((row_of code).k / 8) q.1.0; is = rw (eq-eqb _ 0 e) }

module _ {code : ℕ} {message frame : List ℕ} (f : Frames code message frame) where
  frames_bits : (v : ℕ) → v < (row_of code).n → bit_at frame v ≡ frame_of code (bit_at message) v
  frames_bits = rw f.is (encoded_bits code f.is_known message f.long)

  frames_meets : TC code → Meets code (bit_at frame)
  frames_meets tc = rw f.is (encoded_meets code tc message f.long)

-- ---- the demands
pub encode_table : EncodesByTable encoding encoder
encode_table code b = refl

pub encode_data : EncodesData encoding encoder
encode_data code b e = frames_bits (encode_frames code b e)

pub encode_meets : FrameMeets encoding encoder
encode_meets code b tc e = frames_meets (encode_frames code b e) tc

pub copy_table : EncodesByTable copy_encoding copy_encoder
copy_table code b = refl

pub copy_data : EncodesData copy_encoding copy_encoder
copy_data code b e = frames_bits (copy_frames code b.message b.codeword e)

pub copy_meets : FrameMeets copy_encoding copy_encoder
copy_meets code b tc e = frames_meets (copy_frames code b.message b.codeword e) tc

-- ---- what is sent
pub record Message (code : ℕ) (frame : List ℕ) : Type 0 where
  pub message : List ℕ
  pub bytes : Bytes message
  pub frames : Frames code message frame

-- what stands in the codeword is the frame
stands : {code a : ℕ} {m frame : List ℕ} {x : Encoded} → encoded a frame ≡ x → Frames code m x.codeword → Frames code m frame
stands e f = record { is_known = f.is_known; long = f.long; is = ap (λ (y : Encoded). y.codeword) e ∙ f.is }

answered : {a : ℕ} {frame : List ℕ} {x : Encoded} → encoded a frame ≡ x → a ≡ 0 → x.answer ≡ 0
answered e z = sym (ap (λ (y : Encoded). y.answer) e) ∙ z

pub sent_message : {code : ℕ} {frame : List ℕ} → Sent code frame → Message code frame
sent_message {code} (by_encode answer s bytes e z) =
    let f = encode_frames code s (answered e z) in
    record { message = take ((row_of code).k / 8) s; bytes = bytes_take ((row_of code).k / 8) s f.long bytes; frames = stands e f }
sent_message {code} (by_copy_encode answer m s bytes e z) =
    record { message = m; bytes = bytes; frames = stands e (copy_frames code m s (answered e z)) }

module _ {code : ℕ} {frame : List ℕ} (sent : Sent code frame) where
  -- what holds of the frame of every message holds of what is sent
  pub of_message : (P : List ℕ → Type 0) → ((msg : List ℕ) → Bytes msg → length msg ≡ (row_of code).k / 8 → P (encoded_bytes code msg)) → P frame
  of_message P holds =
      let m = sent_message sent in
      subst P (sym m.frames.is) (holds m.message m.bytes m.frames.long)

  pub sent_length : length frame ≡ (row_of code).n / 8
  sent_length = of_message (λ s. length s ≡ (row_of code).n / 8) (λ msg bytes len. encoded_length code (sent_message sent).frames.is_known msg len)

  pub sent_bytes : Bytes frame
  sent_bytes = of_message Bytes (λ msg bytes len. encoded_bytes_lem code msg bytes)

  -- of a TC code it meets every equation
  pub sent_meets : TC code → Meets code (bit_at frame)
  sent_meets = frames_meets (sent_message sent).frames

  -- of a TM code it has a completion
  pub sent_completes : TM code → Completes code frame (completion_bytes code frame)
  sent_completes tm = of_message (λ s. Completes code s (completion_bytes code s)) (λ msg bytes len. clean.sent_completes code tm msg len)
