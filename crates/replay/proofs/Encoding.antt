-- A frame that was encoded is encoded again to itself, and what the tests of both encoders tell. Assumes nothing.
use mathlib.Core.Bool.{Bool, true}
use mathlib.Core.List.{List}
use mathlib.Core.Path.{◌≡◌, refl, sym, ap, ◌∙◌}
use Prim.Native.Nat.{ℕ, ◌/◌}
use borrow.Author.Tests.{eq-eqb}
use lib.ListN.{length, take}
use Rattle.std.specs.Prelude.{Result, Ok, Err}
use Rattle.std.specs.Result.{is_ok}
use Rattle.codes.specs.declared.refusal.Refusal.{Refusal}
use Rattle.codes.specs.Answers.{answer_of}
use Rattle.codes.specs.Codes.{Known, row_of}
use Rattle.codes.specs.Frames.{encoded_bytes}
use Rattle.codes.proofs.Answers.{all_passed, passed_known, passed_length}
use Rattle.matrices.proofs.Encoded.{encoded_front, encoded_length}
use Rattle.encoder.specs.Outcomes.{Encoded, encoded, copy_tests, encode_outcome, copy_encode_outcome}
use Rattle.encoder.proofs.Answered.{encode_frame}
use Rattle.replay.specs.Agreement.{EncodeCompared}

module _ (code : ℕ) (m s : List ℕ) where
  abbrev first : Encoded
  first = copy_encode_outcome code m s

  twice : first.answer ≡ 0 → encode_outcome code first.codeword ≡ encoded 0 first.codeword
  twice z =
      let q = all_passed (copy_tests code (length m) (length s)) tt z in
      let h : Known code = passed_known code q.0 in
      let long : length m ≡ (row_of code).k / 8 = passed_length (length m) ((row_of code).k / 8) q.1.0 in
      let is : first.codeword ≡ encoded_bytes code m = rw (eq-eqb _ 0 z) in
      encode_frame code first.codeword h (ap length is ∙ encoded_length code h m long)
      ∙ ap (encoded 0) (ap (encoded_bytes code) (ap (take ((row_of code).k / 8)) is ∙ encoded_front code m long) ∙ sym is)

  module _ (want : List ℕ) {a : ℕ} {w : List ℕ} (e : encoded a w ≡ first) where
    answered : a ≡ first.answer
    answered = ap (λ (x : Encoded). x.answer) e

    copied : w ≡ first.codeword
    copied = ap (λ (x : Encoded). x.codeword) e

    -- the first call was accepted, and the second one is made
    module _ (z : a ≡ 0) {b : ℕ} {v : List ℕ} (f : encoded b v ≡ encode_outcome code w) where
      again : encode_outcome code w ≡ encoded 0 w
      again = rw copied (twice (sym answered ∙ z))

      same : v ≡ w
      same = ap (λ (x : Encoded). x.codeword) (f ∙ again)

      pub again_told : {t : Bool} → (t ≡ true → v ≡ want) × (v ≡ want → t ≡ true) → EncodeCompared code m s want t v
      again_told g =
          record {
            agrees =
                record {
                  sound = λ h. let is : w ≡ want = sym same ∙ g.0 h in record { copied = sym e ∙ rw (z, is); again = rw is at again };
                  complete = λ p. g.1 (same ∙ copied ∙ ap (λ (x : Encoded). x.codeword) p.copied);
                };
            left = same ∙ copied;
          }

-- a call that is not refused answers 0
pub ok_answer : {A : Type 0} (r : Result A Refusal) → is_ok r ≡ true → answer_of r ≡ 0
ok_answer (Ok x) h = refl
ok_answer (Err why) h = cc
