-- An unchanged frame of a TM code: it has exactly one completion, and bit flipping returns it with (true, 0). Assumes nothing.
use mathlib.Core.Bool.{true}
use mathlib.Core.List.{List}
use mathlib.Core.Path.{◌≡◌, sym, ap, ap₂, ◌∙◌, subst}
use Prim.Native.Nat.{ℕ, ◌*◌, ◌/◌, ◌%◌, ◌≤◌, ◌<◌}
use native.Mathlib.Nat.{mod-mod, mod-eq_of_lt}
use native.Mathlib.Omega.{arith}
use borrow.Author.Tests.{le-ltb, lt-leb}
use lib.Dec.{leb}
use lib.ListN.{length, take, replicate}
use lib.Seq.{length-take-le}
use Rattle.maths.specs.Bits.{bit_at}
use Rattle.maths.specs.Bytes.{Bytes, pack}
use Rattle.maths.specs.Lists.{span}
use Rattle.maths.proofs.Tests.{both_false}
use Rattle.maths.proofs.Lists.{span_length}
use Rattle.maths.proofs.Slices.{span_whole}
use Rattle.maths.proofs.Bytes.{bit_at_low, bit_at_past, bit_at_take, length_pack, bytes_pack, bit_at_pack, bits_same, bytes_take}
use Rattle.codes.specs.Codes.{Known, TM, row_of, bits_in}
use Rattle.codes.specs.Edges.{edges}
use Rattle.codes.specs.Equations.{Meets, word_of}
use Rattle.codes.proofs.Codes.{roomy, tm_punctured}
use Rattle.codes.specs.Frames.{frame_of, encoded_bytes}
use Rattle.matrices.proofs.Edges.{meets_same}
use Rattle.matrices.proofs.Encoded.{encoded_bits}
use Rattle.report.specs.Report.{ending}
use Rattle.bit_flip.specs.Erasures.{voted, filled, erasure_passes}
use Rattle.bit_flip.specs.Outcome.{left, received, punctured, outcome}
use Rattle.bit_flip.proofs.Votes.{one_pass}
use Rattle.bit_flip.proofs.Theorems.{answer_of, accepted_input, received_word, ends_at_once}
use Rattle.telemetry.specs.Completion.{completion, completion_bytes, Completes}
use Rattle.telemetry.proofs.Votes.{voted_completion}
use Rattle.telemetry.proofs.Completed.{completion_same, completion_only, completion_meets}

module _ (code : ℕ) (tm : TM code) where
  abbrev known : Known code
  known = tm.1

  -- ---- the erasure pass, of any input
  module _ (input : List ℕ) (len : length input ≡ (row_of code).n / 8) where
    fits : 8 * length input ≡ (row_of code).n
    fits = omega (arith, len, (roomy code known).sent)

    abbrev full : List ℕ
    full = span (completion code (bit_at input)) 0 (bits_in code)

    full_word : word_of full ≡ completion code (bit_at input)
    full_word =
        span_whole (completion code (bit_at input)) (bits_in code)
        (λ v h. rw (le-ltb v (bits_in code) h, both_false (leb (row_of code).n v)) (bit_at_past input v (omega (arith, fits))))

    -- whatever was received, it gives its completion and counts 0
    pub erasures_end : (limit : ℕ) → 1 ≤ limit
        → erasure_passes (punctured code) (edges code) (row_of code).punctured_bits limit (received code input) ≡ filled full 0
    erasures_end limit h =
        let w = received code input in
        let v : full ≡ voted (punctured code) (edges code) w =
        ap₂ (λ (f : ℕ → ℕ) (n : ℕ). span (completion code f) 0 n) (sym (received_word input (bits_in code) (omega (arith, fits)))) (sym (span_length (bit_at input) 0 (bits_in code)))
        ∙ sym (voted_completion code tm w) in
        sym (one_pass (punctured code) (edges code) (row_of code).punctured_bits limit w (tm_punctured code tm) h v)

  -- a frame whose completion meets the equations is decoded to it at once
  clean_completion : (input output working : List ℕ) (limit : ℕ) → answer_of code input output working ≡ 0
      → Meets code (completion code (bit_at input)) → 1 ≤ limit
      → outcome code input output working limit ≡ left (ending true 0) (completion_bytes code input) (replicate (bits_in code) 0)
  clean_completion input output working limit e meets h =
      let len = accepted_input code input output working limit e in
      let w = full_word input len in
      ends_at_once code limit input output working (full input len) e (erasures_end input len limit h) (subst (Meets code) (sym w) meets) h
      ∙ ap (λ (f : ℕ → ℕ). left (ending true 0) (pack f (row_of code).output_len) (replicate (bits_in code) 0)) w

  -- ---- a frame has at most one completion, as bytes
  pub completes_once : (frame word word' : List ℕ) → Completes code frame word → Completes code frame word' → word ≡ word'
  completes_once frame word word' c c' =
      bits_same word word' (c.long ∙ sym c'.long) c.bytes c'.bytes (λ v h.
      sym (mod-eq_of_lt (bit_at_low word v))
      ∙ completion_only code tm (bit_at word) (bit_at word') (λ u l. ap (λ (x : ℕ). x % 2) (c.front u l ∙ sym (c'.front u l))) c.meets c'.meets v
      (omega (arith, c.long, (roomy code known).whole))
      ∙ mod-eq_of_lt (bit_at_low word' v))

  -- the frame stands in front of it
  pub completes_front : (frame word : List ℕ) → Bytes frame → length frame ≡ (row_of code).n / 8 → Completes code frame word → take ((row_of code).n / 8) word ≡ frame
  completes_front frame word bytes len c =
      let m = (row_of code).n / 8 in
      let r = roomy code known in
      let l : length (take m word) ≡ m = length-take-le m word (omega (arith, c.long, r.whole, r.sent)) in
      bits_same (take m word) frame (l ∙ sym len) (bytes_take m word l c.bytes) bytes
      (λ v h. bit_at_take m word v (omega arith) ∙ c.front v (omega (arith, r.sent)))

  -- ---- the frame of a message
  module _ (msg : List ℕ) (len : length msg ≡ (row_of code).k / 8) where
    abbrev sent : List ℕ
    sent = encoded_bytes code msg

    completed_meets : Meets code (completion code (bit_at sent))
    completed_meets =
        meets_same code known (completion code (frame_of code (bit_at msg))) (completion code (bit_at sent))
        (completion_same code tm (frame_of code (bit_at msg)) (bit_at sent) (λ v h. ap (λ (x : ℕ). x % 2) (sym (encoded_bits code known msg len v h))))
        (completion_meets code tm (bit_at msg))

    -- it has a completion, by the checks of its punctured bits
    pub sent_completes : Completes code sent (completion_bytes code sent)
    sent_completes =
        let size = (roomy code known).whole in
        let at : (v : ℕ) → v < bits_in code → bit_at (completion_bytes code sent) v ≡ completion code (bit_at sent) v % 2 =
        λ v h. bit_at_pack (completion code (bit_at sent)) (row_of code).output_len v (omega arith) in
        record {
          long = length_pack (completion code (bit_at sent)) (row_of code).output_len;
          bytes = bytes_pack (completion code (bit_at sent)) (row_of code).output_len;
          front = λ v h. at v (omega arith) ∙ rw (lt-leb (row_of code).n v h) (mod-eq_of_lt (bit_at_low sent v));
          meets = meets_same code known (completion code (bit_at sent)) (bit_at (completion_bytes code sent))
              (λ v h. sym (ap (λ (x : ℕ). x % 2) (at v h) ∙ mod-mod (completion code (bit_at sent) v) 2)) completed_meets;
        }

    -- unchanged, with limit 1 or more, bit flipping returns it with (true, 0)
    pub unchanged : (output working : List ℕ) (limit : ℕ) → answer_of code sent output working ≡ 0 → 1 ≤ limit
        → outcome code sent output working limit ≡ left (ending true 0) (completion_bytes code sent) (replicate (bits_in code) 0)
    unchanged output working limit e h = clean_completion sent output working limit e completed_meets h
