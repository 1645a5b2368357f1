-- From a call's tests, one by one, to its answer, and from the answer to what the call knows and leaves. Assumes nothing.
use mathlib.Core.Bool.{Bool, true, false, not}
use mathlib.Core.List.{List, [], ◌∷◌, ◌++◌}
use mathlib.Core.Path.{◌≡◌, refl, sym, ap, ◌∙◌}
use lib.ListN.{get_or}
use Prim.Native.Nat.{ℕ, zero, suc, ◌<◌}
use native.Mathlib.Omega.{arith}
use borrow.Author.Tests.{ltb-true, ltb-false, eqb-true, ne_eqb, not-false}
use Rattle.std.proofs.Common.{rules}
use lib.Dec.{T, eqb, ltb}
use Rattle.maths.specs.Tests.{pick, all}
use Rattle.maths.proofs.Tests.{both_left, both_right}
use Rattle.std.specs.Prelude.{Result, Ok, Err, ⊤}
use Rattle.codes.specs.declared.refusal.Refusal.{Refusal}
use Rattle.codes.specs.declared.refusal.Refusal.TheVariants.{UnknownCode, WrongRead, WrongWritten, WrongWorking, WrongSigns, LimitTooLarge}
use Rattle.codes.specs.Answers.{Test, first_of, number, answer_of, checked, unlike, max_iters, Allowed, too_many}
use Rattle.codes.specs.Codes.{codes, Known, known}

-- none of the tests fails
abbrev pub Passed : List Test → Type 0
Passed [] = Unit
Passed (t ∷ ts) = (t.fails ≡ false) × Passed ts

-- no test refuses by 0
abbrev pub numbered : List Test → Bool
numbered = all (λ t. ltb 0 t.number)

-- one test more, after all others: an answer that is not 0 stays
pub last_test : (ts : List Test) (t : Test) → T (numbered ts) → first_of (ts ++ (t ∷ [])) ≡ pick (eqb (first_of ts) 0) (first_of (t ∷ [])) (first_of ts)
last_test [] t low = refl
last_test (s ∷ ts) t low = by s.fails s.number (both_left (ltb 0 s.number) (numbered ts) low) (last_test ts t (both_right (ltb 0 s.number) (numbered ts) low))
  where
    by : (fails : Bool) (n : ℕ) → T (ltb 0 n) → first_of (ts ++ (t ∷ [])) ≡ pick (eqb (first_of ts) 0) (first_of (t ∷ [])) (first_of ts)
        → pick fails n (first_of (ts ++ (t ∷ []))) ≡ pick (eqb (pick fails n (first_of ts)) 0) (first_of (t ∷ [])) (pick fails n (first_of ts))
    by true zero l e = absurd l
    by true (suc n) l e = rw (ne_eqb (suc n) 0 (λ z. omega arith))
    by false n l e = e

-- what a call knows that is accepted
pub all_passed : (ts : List Test) → T (numbered ts) → first_of ts ≡ 0 → Passed ts
all_passed [] low e = tt
all_passed (t ∷ ts) low e =
    by t.fails t.number (both_left (ltb 0 t.number) (numbered ts) low) (all_passed ts (both_right (ltb 0 t.number) (numbered ts) low)) e
  where
    by : (fails : Bool) (n : ℕ) → T (ltb 0 n) → (first_of ts ≡ 0 → Passed ts) → pick fails n (first_of ts) ≡ 0 → (fails ≡ false) × Passed ts
    by true zero l k e = absurd l
    by true (suc n) l k e = absurd (omega arith)
    by false n l k e = (refl, k e)

pub passed_known : (code : ℕ) → not (known code) ≡ false → Known code
passed_known code e = ltb-true code codes (not-false (ltb code codes) e)

pub passed_length : (have want : ℕ) → unlike have want ≡ false → have ≡ want
passed_length have want e = eqb-true have want (not-false (eqb have want) e)

pub passed_limit : (limit : ℕ) → too_many limit ≡ false → Allowed limit
passed_limit limit e = ltb-false max_iters limit e

-- what one test says that refuses, and one that does not
pub refuses : (fails : Bool) (why : Refusal) {e : Refusal} → Err e ≡ checked fails why → (fails ≡ true) × (e ≡ why)
refuses true why h = (refl, search (rules, h))
refuses false why h = search (rules, h)

pub passes : (fails : Bool) (why : Refusal) {x : ⊤} → Ok x ≡ checked fails why → fails ≡ false
passes true why h = search (rules, h)
passes false why h = refl

-- what a call leaves, by its answer and by whether that is 0: where it was refused, and where it was accepted
module _ {A : Type 0} (left : ℕ → Bool → A) {given answer : ℕ} (e : given ≡ answer) where
  pub refused_by : (given ≡ 0 → ⊥) → left given false ≡ left answer (eqb answer 0)
  refused_by h = rw (← e, ne_eqb given 0 h)

  pub accepted_by : given ≡ 0 → left 0 true ≡ left answer (eqb answer 0)
  accepted_by h = rw (← e, h)

-- ---- a call's answer is decided by its number
all_answers : List (Result ⊤ Refusal)
all_answers = Ok tt ∷ Err UnknownCode ∷ Err WrongRead ∷ Err WrongWritten ∷ Err WrongWorking ∷ Err WrongSigns ∷ Err LimitTooLarge ∷ []

told_by : (x : Result ⊤ Refusal) → get_or all_answers (answer_of x) (Ok tt) ≡ x
unfolding all_answers
told_by (Ok x) = refl
told_by (Err UnknownCode) = refl
told_by (Err WrongRead) = refl
told_by (Err WrongWritten) = refl
told_by (Err WrongWorking) = refl
told_by (Err WrongSigns) = refl
told_by (Err LimitTooLarge) = refl

pub answer_decides : (x y : Result ⊤ Refusal) → answer_of x ≡ answer_of y → x ≡ y
answer_decides x y e = sym (told_by x) ∙ ap (λ n. get_or all_answers n (Ok tt)) e ∙ told_by y

pub number_decides : (a b : Refusal) → number a ≡ number b → a ≡ b
number_decides a b e = search (rules, answer_decides (Err a) (Err b) e)

pub number_above : (why : Refusal) → 0 < number why
number_above UnknownCode = omega arith
number_above WrongRead = omega arith
number_above WrongWritten = omega arith
number_above WrongWorking = omega arith
number_above WrongSigns = omega arith
number_above LimitTooLarge = omega arith
