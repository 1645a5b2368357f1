-- What the main passes leave in their bytes is what the definition says. Assumes nothing.
use mathlib.Core.Bool.{Bool, true, false}
use mathlib.Core.List.{List, [], ◌∷◌, map}
use mathlib.Core.Path.{◌≡◌, refl, ap₂, ◌∙◌}
use Prim.Native.Nat.{ℕ, zero, suc, ◌+◌, ◌-◌, ◌*◌, ◌/◌, ◌%◌, ◌≤◌, ◌<◌, max}
use native.Mathlib.Decide.{dec_lt}
use native.Mathlib.Omega.{arith}
use lib.Dec.{T, eqb, ltb, ltb→lt}
use lib.ListN.{length, get_or-eq_default}
use Rattle.maths.specs.Tests.{pick, all}
use Rattle.maths.specs.Lists.{span, fold, largest_of}
use Rattle.maths.specs.Sums.{sum_l}
use Rattle.maths.specs.Budget.{stop, go}
use Rattle.maths.proofs.Tests.{both_left, both_right, pick_both}
use Rattle.maths.proofs.Lists.{span_length, span_ext, map_span}
use Rattle.maths.proofs.Slices.{span_get}
use Rattle.codes.specs.Edges.{Edge, in_range}
use Rattle.codes.specs.Equations.{checks_of, par, word_of}
use Rattle.runs.specs.Meets.{holds, syndrome_of}
use Rattle.scores.specs.Scores.{give, flip_byte}
use Rattle.scores.proofs.Scores.{gave, flip_one}
use Rattle.bit_flip.specs.Flip.{broken, score, top_score, flipped, turn}
use Rattle.bit_flip.specs.Steps.{FewEdges, Bits}

-- the sum over the checks of a bit, where only checks in range have edges
pub sum_ranged : (m n : ℕ) (g g' : ℕ → ℕ) → ((a : ℕ) → a < m → g a ≡ g' a) → (es : List Edge) → T (all (in_range m n) es) → (v : ℕ)
    → sum_l (checks_of es v) g ≡ sum_l (checks_of es v) g'
sum_ranged m n g g' h [] t v = refl
sum_ranged m n g g' h (e ∷ es) t v =
    go (eqb e.bit v) (h e.check (ltb→lt e.check m (both_left (ltb e.check m) (ltb e.bit n) (both_left (in_range m n e) (all (in_range m n) es) t))))
    (sum_ranged m n g g' h es (both_right (in_range m n e) (all (in_range m n) es) t) v)
  where
    go : (x : Bool) → g e.check ≡ g' e.check → sum_l (checks_of es v) g ≡ sum_l (checks_of es v) g'
        → sum_l (pick x (e.check ∷ checks_of es v) (checks_of es v)) g ≡ sum_l (pick x (e.check ∷ checks_of es v) (checks_of es v)) g'
    go true p ih = ap₂ (λ (p q : ℕ). p + q) p ih
    go false p ih = ih

pub sum_few : (g : ℕ → ℕ) → ((v : ℕ) → g v < 2) → (vs : List ℕ) → sum_l vs g ≤ length vs
sum_few g h [] = omega arith
sum_few g h (v ∷ vs) = omega (arith, h v, sum_few g h vs)

broken_low : (es : List Edge) (w : List ℕ) (a : ℕ) → broken es w a < 2
unfolding broken
broken_low es w a = omega arith

-- the byte of a check
syndrome_at : (es : List Edge) (m : ℕ) (w : List ℕ) (a : ℕ) → a < m → word_of (syndrome_of es m (word_of w)) a ≡ broken es w a
unfolding syndrome_of broken
syndrome_at es m w a h = span_get (λ a. par es (word_of w) a % 2) 0 m a h

-- ---- lists by place
largest_half : (b t : ℕ → ℕ) → ((v : ℕ) → b v < 2) → (s n : ℕ) → largest_of (span (λ v. b v + 2 * t v) s n) / 2 ≡ largest_of (span t s n)
unfolding span largest_of
largest_half b t h s zero = refl
largest_half b t h s (suc n) = halves (b s) (t s) _ _ (h s) (largest_half b t h (suc s) n)
  where
    halves : (x y p q : ℕ) → x < 2 → p / 2 ≡ q → max (x + 2 * y) p / 2 ≡ max y q
    halves x y p q k e = omega arith

module _ (es : List Edge) (m n : ℕ) (w : List ℕ) (ranged : T (all (in_range m n) es)) (bits : Bits w) (few : FewEdges es) where
  -- each bit's byte is the bit and twice its score
  scored : {s : List ℕ} → s ≡ syndrome_of es m (word_of w) → fold (give (word_of s)) es w ≡ span (λ v. word_of w v + 2 * score es w v) 0 (length w)
  unfolding score
  scored e =
      rw e
      (gave (word_of (syndrome_of es m (word_of w))) es w (λ v. omega (arith, bits v))
      ∙ span_ext _ _ 0 0 (length w) (λ v k.
      let l = sum_ranged m n (word_of (syndrome_of es m (word_of w))) (broken es w) (syndrome_at es m w) es ranged (0 + v) in
      let q = sum_few (broken es w) (broken_low es w) (checks_of es (0 + v)) in
      rw l (omega (arith, bits (0 + v), few.at (0 + v)))))

  pub flipped_by : {s w₁ w₂ : List ℕ} {t : ℕ} → s ≡ syndrome_of es m (word_of w) → w₁ ≡ fold (give (word_of s)) es w → t ≡ largest_of w₁
      → w₂ ≡ map (flip_byte (t / 2)) w₁ → w₂ ≡ flipped es w
  unfolding flipped top_score
  flipped_by {s} {w₁} {w₂} {t} es_is e₁ et e₂ =
      let b : w₁ ≡ span (λ v. word_of w v + 2 * score es w v) 0 (length w) = e₁ ∙ scored es_is in
      let d : t / 2 ≡ top_score es w = rw (et, b) (largest_half (word_of w) (score es w) bits 0 (length w)) in
      e₂ ∙ rw (b, d) (map_span _ (flip_byte (top_score es w)) 0 (length w)
      ∙ span_ext _ _ 0 0 (length w) (λ v k. flip_one (top_score es w) (word_of w (0 + v)) (score es w (0 + v)) (bits (0 + v))))

-- a span of bits
pub span_bits : (f : ℕ → ℕ) → ((v : ℕ) → f v < 2) → (n : ℕ) → Bits (span f 0 n)
span_bits f low n v = go (dec_lt v n)
  where
    go : Dec (v < n) → word_of (span f 0 n) v < 2
    go (yes k) = rw (span_get f 0 n v k) (low v)
    go (no k) = let h : length (span f 0 n) ≤ v = omega (arith, span_length f 0 n) in rw (get_or-eq_default (span f 0 n) 0 h) (omega arith)

pub flipped_length : (es : List Edge) (w : List ℕ) → length (flipped es w) ≡ length w
unfolding flipped
flipped_length es w = span_length _ 0 (length w)

pub flipped_bits : (es : List Edge) (w : List ℕ) → Bits w → Bits (flipped es w)
unfolding flipped
flipped_bits es w bits =
    span_bits _ (λ v. pick_both (λ (x : ℕ). x < 2) (eqb (score es w v) (top_score es w)) (1 - word_of w v) (word_of w v) (omega arith) (bits v)) (length w)

pub flipped_kept : (es : List Edge) (w : List ℕ) → Bits w → {w' : List ℕ} → w' ≡ flipped es w → Bits w'
flipped_kept es w bits e = rw e (flipped_bits es w bits)

-- a pass that goes on has flipped
pub gone : (es : List Edge) (m : ℕ) (s t : List ℕ) → turn es m s ≡ go t → t ≡ flipped es s
unfolding turn
gone es m s t = by (holds es m (word_of s))
  where
    by : (b : Bool) → pick b (stop s) (go (flipped es s)) ≡ go t → t ≡ flipped es s
    by true e = absurd (let z : ◌≡◌ {A = ℕ} 0 1 = cc in omega arith)
    by false e = cc
