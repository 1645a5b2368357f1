-- A fold that puts each edge's far end into a list at its near end: what stands there in the end is all of them put in, in order. Assumes nothing.
use Rattle.std.proofs.Common.{◌≡◌, ℕ, ◌+◌, ◌%◌, ◌<◌, List, [], ◌∷◌, length, get_or, set, replicate, sym, refl, ap, ◌∙◌, arith, length-set, get_or-set_other, get_or-set_same, lt-length-set, eq-eqb, ne_eqb}
use native.Mathlib.Decide.{ℕ_discrete}
use lib.ListN.{length-replicate, get_or-replicate}
use Rattle.maths.specs.Lists.{fold}
use Rattle.maths.specs.Sums.{sum_l}
use Rattle.maths.proofs.Slices.{span_is}
use Rattle.codes.specs.Edges.{Edge}
use Rattle.codes.specs.Equations.{ends, check_of, bit_of, bits_of, par}
use Rattle.runs.specs.Meets.{syndrome_of}
use Rattle.runs.specs.Steps.{put, add2, add_bit}

-- all of vs put into x, in order
unfoldable pub into : (ℕ → ℕ → ℕ) → (ℕ → ℕ) → List ℕ → ℕ → ℕ
into f g [] x = x
into f g (v ∷ vs) x = into f g vs (f x (g v))

module _ (near far : Edge → ℕ) (f : ℕ → ℕ → ℕ) (g : ℕ → ℕ) where
  pub put_length : (es : List Edge) (acc : List ℕ) → length (fold (put near far f g) es acc) ≡ length acc
  unfolding fold put
  put_length [] acc = refl
  put_length (e ∷ es) acc = put_length es _ ∙ length-set acc (near e) _

  pub put_at : (es : List Edge) (acc : List ℕ) (a : ℕ) → a < length acc
      → get_or (fold (put near far f g) es acc) a 0 ≡ into f g (ends near far es a) (get_or acc a 0)
  unfolding fold put into
  put_at [] acc a h = refl
  put_at (e ∷ es) acc a h = put_at es (put near far f g e acc) a (lt-length-set acc (near e) _ h) ∙ go (ℕ_discrete (near e) a)
    where
      go : Dec (near e ≡ a) → into f g (ends near far es a) (get_or (put near far f g e acc) a 0) ≡ into f g (ends near far (e ∷ es) a) (get_or acc a 0)
      go (yes q) = rw (q, eq-eqb a a refl, get_or-set_same acc a (f (get_or acc a 0) (g (far e))) 0 h)
      go (no q) = rw (ne_eqb (near e) a q, get_or-set_other acc (near e) a (f (get_or acc (near e) 0) (g (far e))) 0 (λ x. q (sym x)))

  -- one edge's store is the fold's step
  pub put_is : (e : Edge) (acc : List ℕ) {r : ℕ} → r ≡ f (get_or acc (near e) 0) (g (far e)) → set acc (near e) r ≡ put near far f g e acc
  unfolding put
  put_is e acc q = ap (set acc (near e)) q

-- sums modulo 2
pub into_add2 : (w : ℕ → ℕ) (vs : List ℕ) (x : ℕ) → x < 2 → into add2 w vs x ≡ (x + sum_l vs w) % 2
unfolding into
into_add2 w [] x k = omega arith
into_add2 w (v ∷ vs) x k = into_add2 w vs ((x + w v) % 2) (omega arith) ∙ omega arith

-- what adding all bits leaves in cleared checks
pub added : (es : List Edge) (m : ℕ) (w : ℕ → ℕ) → fold (add_bit w) es (replicate m 0) ≡ syndrome_of es m w
unfolding syndrome_of
added es m w =
    span_is 0 _ (λ a. par es w a % 2) m (put_length check_of bit_of add2 w es (replicate m 0) ∙ length-replicate {A = ℕ} m 0)
    (λ a k.
    let z : get_or (replicate m 0) a 0 ≡ 0 = get_or-replicate {A = ℕ} m a 0 0 k in
    let l : a < length (replicate {A = ℕ} m 0) = rw (length-replicate {A = ℕ} m 0) k in
    let p : into add2 w (bits_of es a) 0 ≡ par es w a % 2 = into_add2 w (bits_of es a) 0 (omega arith) ∙ omega arith in
    rw z at (put_at check_of bit_of add2 w es (replicate m 0) a l) ∙ p)
