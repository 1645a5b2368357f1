-- What a decoder may answer within three bits of what was received completes the frame that was sent. Assumes nothing.
use mathlib.Core.List.{List}
use mathlib.Core.Path.{◌≡◌, sym, ap, ◌∙◌}
use Prim.Native.Nat.{ℕ, ◌+◌, ◌/◌, ◌≤◌, ◌<◌}
use native.Mathlib.Decide.{dec_lt}
use native.Mathlib.Omega.{arith}
use lib.ListN.{length}
use Rattle.maths.specs.Bits.{bit_at}
use Rattle.maths.specs.Bytes.{Bytes}
use Rattle.maths.specs.Distance.{distance}
use Rattle.maths.proofs.Bytes.{bytes_take}
use Rattle.maths.proofs.Distance.{distance_zero}
use Rattle.maths.proofs.Triangle.{distance_over}
use Rattle.codes.specs.Codes.{TM, row_of}
use Rattle.codes.specs.Equations.{Meets}
use Rattle.telemetry.specs.Completion.{Completes}
use Rattle.tm_distance.proofs.Frames.{front, front_length, front_bit, frame_four}

module _ (code : ℕ) (tm : TM code) where
  module _ (frame full : List ℕ) (bytes : Bytes frame) (len : length frame ≡ (row_of code).n / 8) (c : Completes code frame full) where
    -- one on a way of three bits over what was received begins with the frame, and completes it
    module _ (received word : List ℕ) (as_long : length received ≡ (row_of code).n / 8) (near : distance frame received + distance received (front code tm word) ≤ 3)
        (long : length word ≡ (row_of code).output_len) (is_bytes : Bytes word) (good : Meets code (bit_at word)) where
      near_front : front code tm word ≡ frame
      near_front =
          let l = front_length code tm word long in
          sym (distance_zero frame (front code tm word) (len ∙ sym l) bytes (bytes_take ((row_of code).n / 8) word l is_bytes) (go (dec_lt 0 (distance frame (front code tm word)))))
        where
          go : Dec (0 < distance frame (front code tm word)) → distance frame (front code tm word) ≡ 0
          go (yes h) = absurd (omega (arith, frame_four code tm frame full bytes len c word good h, distance_over frame received (front code tm word) (len ∙ sym as_long)))
          go (no h) = omega arith

      pub near_completes : Completes code frame word
      near_completes =
          record {
            long = long;
            bytes = is_bytes;
            front = λ v h. sym (front_bit code tm word v h) ∙ ap (λ (s : List ℕ). bit_at s v) near_front;
            meets = good;
          }
