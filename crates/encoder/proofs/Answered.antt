-- From the tests of a call to what it leaves. Assumes nothing.
use Rattle.std.proofs.Common.{length-append, ◌≡◌, ℕ, ◌/◌, ◌≤◌, ◌<◌, List, ◌++◌, length, get_or, take, drop, Ok, ap, ◌∙◌, arith}
use borrow.Author.Tests.{ltb-true, lt-ltb, eq-eqb}
use lib.ListN.{length-drop}
use lib.Seq.{take_at}
use Rattle.maths.proofs.Tests.{below_eq}
use Rattle.codes.specs.declared.CodeParams.{CodeParams}
use Rattle.codes.specs.declared.Code.{Code}
use Rattle.codes.specs.declared.Code.TheVariants.{TC128}
use Rattle.codes.specs.Codes.{codes, Known, number_of, all_codes, code_at, row_of}
use Rattle.std.specs.Prelude.{⊤}
use Rattle.codes.specs.Answers.{checked, unlike}
use Rattle.codes.specs.declared.refusal.Refusal.TheVariants.{WrongRead, WrongWritten}
use Rattle.codes.proofs.Answers.{passed_length, passes}
use Rattle.codes.specs.Frames.{encoded_bytes}
use Rattle.codes.proofs.Codes.{roomy, code_known}
use Rattle.encoder.specs.Outcomes.{encoded, encode_outcome, copy_encode_outcome}
use Rattle.encoder.proofs.Known.{number_known}

-- data and a codeword of the lengths asked for are encoded
pub encode_frame : (code : ℕ) (s : List ℕ) → Known code → length s ≡ (row_of code).n / 8 → encode_outcome code s ≡ encoded 0 (encoded_bytes code (take ((row_of code).k / 8) s))
encode_frame code s h e = rw (lt-ltb code codes h, eq-eqb (length s) ((row_of code).n / 8) e)

copy_frame : (code : ℕ) (m s : List ℕ) → Known code → length m ≡ (row_of code).k / 8 → length s ≡ (row_of code).n / 8 → copy_encode_outcome code m s ≡ encoded 0 (encoded_bytes code m)
copy_frame code m s h r w = rw (lt-ltb code codes h, eq-eqb (length m) ((row_of code).k / 8) r, eq-eqb (length s) ((row_of code).n / 8) w)

-- the number that a code was found by is its own
numbered : (n : ℕ) → n < codes → number_of (get_or all_codes n TC128) ≡ n
numbered n h = below_eq codes (λ i. number_of (get_or all_codes i TC128)) (λ i. i) tt n h

module _ (n : ℕ) {code : Code} (found : Ok code ≡ code_at n) where
  number_is : number_of code ≡ n
  number_is =
      let k = code_known n found in
      let f = rw k at found in
      let is : code ≡ get_or all_codes n TC128 = cc in
      ap number_of is ∙ numbered n (ltb-true n codes k)

-- ---- data that are copied before they are encoded
module _ (code : Code) (m s : List ℕ) {row : CodeParams} (row_is : row ≡ row_of (number_of code)) (read : length m ≡ row.k / 8) (written : length s ≡ row.n / 8) where
  pub copy_fits : length m ≤ length s
  copy_fits = omega (arith, (roomy (number_of code) (number_known code)).k_low, ap (λ (r : CodeParams). r.k) row_is, ap (λ (r : CodeParams). r.n) row_is)

  pub copy_done : (n : ℕ) → Ok code ≡ code_at n → (f : List ℕ) {copied : List ℕ} → copied ≡ m ++ drop (length m) s
      → f ≡ encoded_bytes (number_of code) (take ((row_of (number_of code)).k / 8) copied)
      → encoded 0 f ≡ copy_encode_outcome n m s
  copy_done n found f same is =
      let front : take ((row_of (number_of code)).k / 8) (m ++ drop (length m) s) ≡ m = take_at m (drop (length m) s) _ (rw row_is at read) in
      rw (← number_is n found, is, same, front, copy_frame (number_of code) m s (number_known code) (rw row_is at read) (rw row_is at written))

-- ---- what the two tests of the lengths say
module _ (code : Code) (m s : List ℕ) {row : CodeParams} {a b : ⊤} (row_is : row ≡ row_of (number_of code)) (first : Ok a ≡ checked (unlike (length m) (row.k / 8)) WrongRead) (second : Ok b ≡ checked (unlike (length s) (row.n / 8)) WrongWritten) where
  pub copy_low : length m ≤ length s
  copy_low = copy_fits code m s row_is (passed_length _ _ (passes _ _ first)) (passed_length _ _ (passes _ _ second))

  -- what is copied leaves the codeword as long as it was
  pub copied_long : {copied : List ℕ} → copied ≡ m ++ drop (length m) s → length copied ≡ length s
  copied_long e = rw e (omega (arith, copy_low, length-append m (drop (length m) s), length-drop (length m) s))

pub ruleset copying = (copy_low, copied_long)
