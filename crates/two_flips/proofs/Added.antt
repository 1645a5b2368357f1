-- Bit flipping sees only the syndrome: a word that meets the equations, added to the input, is added to the output. Assumes nothing.
use mathlib.Core.Bool.{Bool, true, false}
use mathlib.Core.List.{List}
use mathlib.Core.Path.{◌≡◌, refl, sym, ap, ◌∙◌, fun_ext}
use Prim.Native.Nat.{ℕ, zero, suc, ◌+◌, ◌-◌, ◌%◌, ◌≤◌, ◌<◌}
use native.Mathlib.Decide.{dec_lt}
use native.Mathlib.Omega.{arith}
use lib.Dec.{eqb}
use lib.ListN.{length, get_or-eq_default}
use Rattle.maths.specs.Tests.{pick}
use Rattle.maths.specs.Lists.{span}
use Rattle.maths.specs.Budget.{stop, go, End, end, follow, run}
use Rattle.maths.specs.Sums.{sum_l}
use Rattle.maths.proofs.Tests.{below_same}
use Rattle.maths.proofs.Sums.{sum_l_add, sum_l_mod}
use Rattle.maths.proofs.Lists.{span_length, span_ext}
use Rattle.maths.proofs.Slices.{span_get}
use Rattle.codes.specs.Edges.{Edge}
use Rattle.codes.specs.Equations.{bits_of, word_of, Hold}
use Rattle.runs.specs.Meets.{holds}
use Rattle.matrices.proofs.Edges.{Ranged}
use Rattle.bit_flip.specs.Flip.{broken, score, top_score, flipped, turn}
use Rattle.bit_flip.specs.Steps.{Bits}
use Rattle.bit_flip.proofs.Scores.{sum_ranged, flipped_length, flipped_bits}
use Rattle.two_flips.specs.Words.{plus}

-- ---- the sum of two words
pub plus_length : (w e : List ℕ) → length (plus w e) ≡ length w
unfolding plus
plus_length w e = span_length _ 0 (length w)

pub plus_at : (w e : List ℕ) → length e ≡ length w → (v : ℕ) → word_of (plus w e) v ≡ (word_of w v + word_of e v) % 2
unfolding plus
plus_at w e long v = at (dec_lt v (length w))
  where
    at : Dec (v < length w) → word_of (span (λ v. (word_of w v + word_of e v) % 2) 0 (length w)) v ≡ (word_of w v + word_of e v) % 2
    at (yes h) = span_get _ 0 (length w) v h
    at (no h) =
        let sum = span (λ v. (word_of w v + word_of e v) % 2) 0 (length w) in
        let l : length sum ≤ v = omega (arith, span_length (λ v. (word_of w v + word_of e v) % 2) 0 (length w)) in
        let none = get_or-eq_default sum 0 {n = v} l in
        let w_none = get_or-eq_default w 0 {n = v} (omega arith) in
        let e_none = get_or-eq_default e 0 {n = v} (omega arith) in
        omega arith

pub plus_is : (w e : List ℕ) (f : ℕ → ℕ) → ((v : ℕ) → v < length w → word_of e v ≡ f v) → plus w e ≡ span (λ v. (word_of w v + f v) % 2) 0 (length w)
unfolding plus
plus_is w e f at = span_ext _ _ 0 0 (length w) (λ v h. ap (λ (x : ℕ). (word_of w (0 + v) + x) % 2) (at (0 + v) (omega arith)))

-- the end of a run, with w added
abbrev pub end_plus : List ℕ → End (List ℕ) → End (List ℕ)
end_plus w x = end x.success x.turns (plus w x.state)

module _ (es : List Edge) (m n : ℕ) (ranged : Ranged m n es) (w : List ℕ) (good : Hold es m (word_of w)) where
  module _ (e : List ℕ) (long : length e ≡ length w) where
    -- a check below m is broken as it is by the error alone
    broken_plus : (a : ℕ) → a < m → broken es (plus w e) a ≡ broken es e a
    unfolding broken
    broken_plus a ha =
        let vs = bits_of es a in
        let sum = ap (λ (f : ℕ → ℕ). sum_l vs f % 2) (fun_ext (plus_at w e long)) ∙ sum_l_mod vs (λ v. word_of w v + word_of e v) in
        omega (arith, sum, sum_l_add vs (word_of w) (word_of e), good a ha)

    score_plus : score es (plus w e) ≡ score es e
    unfolding score
    score_plus = fun_ext (λ v. sum_ranged m n (broken es (plus w e)) (broken es e) broken_plus es ranged v)

    top_plus : top_score es (plus w e) ≡ top_score es e
    unfolding top_score
    top_plus = rw (score_plus, plus_length w e, long)

    -- the same checks hold
    pub holds_plus : holds es m (word_of (plus w e)) ≡ holds es m (word_of e)
    unfolding broken
    holds_plus = below_same m (λ a. eqb (broken es (plus w e) a) 0) (λ a. eqb (broken es e a) 0) (λ a h. ap (λ (x : ℕ). eqb x 0) (broken_plus a h))

    -- the same bits are flipped
    pub flipped_plus : Bits w → Bits e → flipped es (plus w e) ≡ plus w (flipped es e)
    unfolding flipped
    flipped_plus w_bits e_bits =
        let t = top_score es e in
        let f : ℕ → ℕ = λ v. pick (eqb (score es e v) t) (1 - word_of e v) (word_of e v) in
        rw (score_plus, top_plus, plus_length w e)
        (span_ext _ _ 0 0 (length w) (λ v h. here (eqb (score es e (0 + v)) t) (0 + v))
        ∙ sym (plus_is w (span f 0 (length e)) f (λ v h. span_get f 0 (length e) v (omega arith))))
      where
        here : (x : Bool) (v : ℕ) → pick x (1 - word_of (plus w e) v) (word_of (plus w e) v) ≡ (word_of w v + pick x (1 - word_of e v) (word_of e v)) % 2
        here true v = omega (arith, plus_at w e long v, w_bits v, e_bits v)
        here false v = plus_at w e long v

  -- a run from the sum ends as the run from the error does
  pub run_plus : Bits w → (b j : ℕ) (e : List ℕ) → length e ≡ length w → Bits e → run (turn es m) b j (plus w e) ≡ end_plus w (run (turn es m) b j e)
  unfolding run turn
  run_plus w_bits zero j e long bits = refl
  run_plus w_bits (suc b) j e long bits =
      rw (holds_plus e long, flipped_plus e long w_bits bits)
      (by (holds es m (word_of e)) (run_plus w_bits b (suc j) (flipped es e) (flipped_length es e ∙ long) (flipped_bits es e bits)))
    where
      by : (x : Bool) → run (turn es m) b (suc j) (plus w (flipped es e)) ≡ end_plus w (run (turn es m) b (suc j) (flipped es e))
          → follow (pick x (stop (plus w e)) (go (plus w (flipped es e)))) j (run (turn es m) b (suc j)) ≡ end_plus w (follow (pick x (stop e) (go (flipped es e))) j (run (turn es m) b (suc j)))
      by true next = refl
      by false next = next
