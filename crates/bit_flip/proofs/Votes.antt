-- What the erasure pass leaves in its bytes is what the definition says. Assumes nothing.
use mathlib.Core.Bool.{Bool, true, false}
use mathlib.Core.List.{List, [], ◌∷◌, map, append-nil}
use mathlib.Core.Path.{◌≡◌, refl, sym, ap, ◌∙◌}
use Prim.Native.Nat.{ℕ, ◌+◌, ◌-◌, ◌*◌, ◌/◌, ◌%◌, ◌≤◌, ◌<◌, min}
use native.Mathlib.Decide.{dec_lt}
use native.Mathlib.Omega.{arith}
use borrow.Author.Tests.{lt-ltb, le-ltb, le-leb, lt-leb}
use borrow.Author.Rules.{rules}
use lib.Dec.{T, eqb, ltb, leb}
use lib.ListN.{length, take, drop, replicate, drop_of_length-le, length-drop, get_or-eq_default}
use Rattle.std.proofs.Common.{get_or-take}
use lib.Seq.{length-take-le}
use native.Mathlib.Nat.{zero-add}
use borrow.Rule.Slice.PartMut.{put_mid}
use Rattle.maths.specs.Tests.{pick, all}
use Rattle.maths.specs.Lists.{span, fold}
use Rattle.maths.specs.Sums.{sum_l}
use Rattle.maths.proofs.Tests.{pick_both, both_true, both_false}
use Rattle.maths.proofs.Lists.{span_length, span_ext, span_split, map_span}
use Rattle.maths.proofs.Slices.{span_get, span_is, span_one}
use Rattle.codes.specs.Edges.{Edge, in_range}
use Rattle.runs.specs.declared.EdgeRun.{EdgeRun}
use Rattle.runs.specs.Runs.{laid}
use Rattle.codes.specs.Equations.{check_of, bit_of, bits_of, checks_of, par, word_of}
use Rattle.runs.specs.Meets.{syndrome_of}
use Rattle.runs.proofs.Tally.{put_length, put_at}
use Rattle.runs.proofs.Parity.{laid_ranged}
use Rattle.scores.specs.Scores.{give}
use Rattle.scores.specs.Votes.{add_erased, count_erased, vote_byte, cast_votes, settle_byte}
use Rattle.scores.proofs.Scores.{gave}
use Rattle.scores.proofs.Casting.{into_erased, vote_one, settle_one}
use Rattle.bit_flip.specs.Erasures.{erased_edges, others, ayes, nays, voted, filled, erasure_passes, from_on}
use Rattle.bit_flip.specs.Steps.{set_from, FewEdges, FewLaid, Bits, Marked}
use Rattle.bit_flip.proofs.Scores.{sum_ranged}

-- ---- sums
sum_same : (g g' : ℕ → ℕ) → ((v : ℕ) → g v ≡ g' v) → (vs : List ℕ) → sum_l vs g ≡ sum_l vs g'
sum_same g g' h [] = refl
sum_same g g' h (v ∷ vs) = omega (arith, h v, sum_same g g' h vs)

sum_parity : (g g' : ℕ → ℕ) → ((v : ℕ) → g v % 2 ≡ g' v % 2) → (vs : List ℕ) → sum_l vs g % 2 ≡ sum_l vs g' % 2
sum_parity g g' h [] = refl
sum_parity g g' h (v ∷ vs) = let e = h v in let f = sum_parity g g' h vs in omega arith

sum_votes : (a n : ℕ → ℕ) (vs : List ℕ) → sum_l vs (λ v. 2 * a v + 254 * n v) ≡ 2 * sum_l vs a + 254 * sum_l vs n
sum_votes a n [] = refl
sum_votes a n (v ∷ vs) = omega (arith, sum_votes a n vs)

sum_two : (a n : ℕ → ℕ) → ((v : ℕ) → a v + n v ≤ 1) → (vs : List ℕ) → sum_l vs a + sum_l vs n ≤ length vs
sum_two a n h [] = omega arith
sum_two a n h (v ∷ vs) = omega (arith, h v, sum_two a n h vs)

module _ (erased : ℕ → Bool) (es : List Edge) (m n : ℕ) (w b : List ℕ) (ranged : T (all (in_range m n) es)) (few : FewEdges es) (mark : Marked erased w b) where
  marked_low : (v : ℕ) → word_of b v < 3
  marked_low v = rw (mark.byte v) (pick_both (λ (x : ℕ). x < 3) (erased v) 2 (word_of w v) (omega arith) (omega (arith, mark.bits v)))

  parity_same : (v : ℕ) → word_of b v % 2 ≡ pick (erased v) 0 (word_of w v) % 2
  parity_same v = rw (mark.byte v) (go (erased v))
    where
      go : (x : Bool) → pick x 2 (word_of w v) % 2 ≡ pick x 0 (word_of w v) % 2
      go true = refl
      go false = refl

  flag_same : (v : ℕ) → word_of b v / 2 ≡ pick (erased v) 1 0
  flag_same v = rw (mark.byte v) (go (erased v))
    where
      go : (x : Bool) → pick x 2 (word_of w v) / 2 ≡ pick x 1 0
      go true = refl
      go false = omega (arith, mark.bits v)

  abbrev tally : ℕ → ℕ
  tally a = min 4 (others erased es w a + 2 * erased_edges erased es a)

  others_low : (a : ℕ) → others erased es w a < 2
  unfolding others
  others_low a = omega arith

  -- parity first, then the erased bits
  counted : {s₁ s₂ : List ℕ} → s₁ ≡ syndrome_of es m (word_of b) → s₂ ≡ fold (count_erased (word_of b)) es s₁ → s₂ ≡ span tally 0 m
  unfolding syndrome_of others erased_edges
  counted {s₁} {s₂} e₁ e₂ =
      e₂ ∙ rw e₁ (span_is 0 _ tally m (put_length check_of bit_of add_erased (word_of b) es s ∙ long)
      (λ a k.
      let l : a < length s = rw long k in
      let o : word_of s a ≡ others erased es w a = span_get (λ a. par es (word_of b) a % 2) 0 m a k ∙ sum_parity (word_of b) _ parity_same (bits_of es a) in
      let h : sum_l (bits_of es a) (λ v. word_of b v / 2) ≡ erased_edges erased es a = sum_same _ _ flag_same (bits_of es a) in
      put_at check_of bit_of add_erased (word_of b) es s a l
      ∙ into_erased (word_of b) (λ v. omega (arith, marked_low v)) (bits_of es a) (word_of s a) (omega (arith, o))
      ∙ rw (o, h)))
    where
      s : List ℕ
      s = span (λ a. par es (word_of b) a % 2) 0 m

      long : length s ≡ m
      long = span_length _ 0 m

  abbrev aye : ℕ → ℕ
  aye a = pick (eqb (erased_edges erased es a) 1) (others erased es w a) 0

  abbrev nay : ℕ → ℕ
  nay a = pick (eqb (erased_edges erased es a) 1) (1 - others erased es w a) 0

  one_vote : (a : ℕ) → aye a + nay a ≤ 1
  one_vote a = go (eqb (erased_edges erased es a) 1)
    where
      go : (x : Bool) → pick x (others erased es w a) 0 + pick x (1 - others erased es w a) 0 ≤ 1
      go true = omega (arith, others_low a)
      go false = omega arith

  cast : {s₃ : List ℕ} → s₃ ≡ map vote_byte (span tally 0 m) → (a : ℕ) → a < m → word_of s₃ a ≡ 2 * aye a + 254 * nay a
  cast e a k =
      rw (e, map_span tally vote_byte 0 m) (span_get (λ a. vote_byte (tally a)) 0 m a k ∙ vote_one (erased_edges erased es a) (others erased es w a) (others_low a))

  -- the votes that a bit has
  votes : {s₃ : List ℕ} → s₃ ≡ map vote_byte (span tally 0 m) → (v : ℕ) → sum_l (checks_of es v) (word_of s₃) ≡ 2 * ayes erased es w v + 254 * nays erased es w v
  unfolding ayes nays
  votes e v = sum_ranged m n _ _ (cast e) es ranged v ∙ sum_votes aye nay (checks_of es v)

  few_votes : (v : ℕ) → ayes erased es w v + nays erased es w v ≤ 31
  unfolding ayes nays
  few_votes v = omega (arith, sum_two aye nay one_vote (checks_of es v), few.at v)

  settled : (s : List ℕ) → s ≡ map vote_byte (span tally 0 m) → map settle_byte (fold (give (word_of s)) es b) ≡ voted erased es w
  unfolding voted
  settled s e =
      ap (map settle_byte) (gave (word_of s) es b (λ v. omega (arith, marked_low v)))
      ∙ map_span _ settle_byte 0 (length b)
      ∙ rw mark.long (span_ext _ _ 0 0 (length w) (λ v k. rw (votes e (0 + v), mark.byte (0 + v)) (settle_one (erased (0 + v)) _ _ _ (mark.bits (0 + v)) (few_votes (0 + v)))))

  pub voted_by : {s b₁ b₂ : List ℕ} → b₂ ≡ map settle_byte b₁ → b₁ ≡ fold (give (word_of s)) es b → s ≡ cast_votes es m b → b₂ ≡ voted erased es w
  unfolding cast_votes
  voted_by e₅ e₄ e = e₅ ∙ rw e₄ (settled _ (e ∙ ap (map vote_byte) (counted refl refl)))

-- ---- over the edges of those runs that lie within m checks and n bits
pub vote_by : (erased : ℕ → Bool) (rs : List EdgeRun) (w b s b₁ b₂ : List ℕ) (k m n : ℕ) → b₂ ≡ map settle_byte b₁ → b₁ ≡ fold (give (word_of s)) (laid k n rs) b
    → s ≡ cast_votes (laid m n rs) m b → k ≡ m → FewLaid rs → Marked erased w b → b₂ ≡ voted erased (laid m n rs) w
vote_by erased rs w b s b₁ b₂ k m n e₅ e₄ e l few mark = voted_by erased (laid m n rs) m n w b (laid_ranged m n rs) (few m n) mark e₅ (rw l at e₄) e

-- ---- the bits from n on are erased
module _ (n x : ℕ) (w : List ℕ) where
  from_length : length (set_from n x w) ≡ length w
  unfolding set_from
  from_length = span_length _ 0 (length w)

  from_at : (v : ℕ) → v < length w → word_of (set_from n x w) v ≡ pick (leb n v) x (word_of w v)
  unfolding set_from
  from_at v h = span_get (λ v. pick (leb n v) x (word_of w v)) 0 (length w) v h

-- filled from there on
pub set_by : (n x : ℕ) (w w' : List ℕ) → n ≤ length w → w' ≡ replicate (length w - n) x → put_mid n (length w - n) w w' ≡ set_from n x w
unfolding set_from
set_by n x w w' h e =
    let k = length w - n in
    let f : ℕ → ℕ = λ v. pick (leb n v) x (word_of w v) in
    let whole : n + k ≡ length w = omega arith in
    let past : drop k (drop n w) ≡ [] = drop_of_length-le (drop n w) (omega (arith, length-drop n w)) in
    let kept : take n w ≡ span f 0 n = span_is 0 (take n w) f n (length-take-le n w h) (λ i l. get_or-take n w i 0 l ∙ rw (lt-leb n i l)) in
    let set : replicate k x ≡ span f n k =
    sym (span_ext f (λ v. x) n 0 k (λ j l. let g : n ≤ n + j = omega arith in rw (le-leb n (n + j) g)) ∙ span_one x 0 k) in
    rw (e, past, append-nil (replicate k x), kept, set) (rw (zero-add n, whole) at (sym (span_split f 0 n k)))

pub marked : (n : ℕ) (w : List ℕ) → Bits w → Marked (from_on n (length w)) w (set_from n 2 w)
marked n w bits = record { bits = bits; long = from_length n 2 w; byte = λ v. go v (dec_lt v (length w)) }
  where
    go : (v : ℕ) → Dec (v < length w) → word_of (set_from n 2 w) v ≡ pick (from_on n (length w) v) 2 (word_of w v)
    go v (yes h) = rw (lt-ltb v (length w) h, both_true (leb n v)) (from_at n 2 w v h)
    go v (no h) =
        let l : length w ≤ v = omega arith in
        let k : length (set_from n 2 w) ≤ v = omega (arith, from_length n 2 w) in
        rw (le-ltb v (length w) l, both_false (leb n v)) (get_or-eq_default (set_from n 2 w) 0 k ∙ sym (get_or-eq_default w 0 l))

-- ---- the erasure passes: none without erased bits or iterations, else one
module _ (erased : ℕ → Bool) (es : List Edge) (p limit : ℕ) (w : List ℕ) where
  pub no_bits : p ≡ 0 → filled w 0 ≡ erasure_passes erased es p limit w
  unfolding erasure_passes
  no_bits e = rw e

  pub no_limit : limit ≡ 0 → filled w 0 ≡ erasure_passes erased es p limit w
  unfolding erasure_passes
  no_limit e = rw (e, both_false (ltb 0 p))

  pub one_pass : {w' : List ℕ} → 0 < p → 0 < limit → w' ≡ voted erased es w → filled w' 0 ≡ erasure_passes erased es p limit w
  unfolding erasure_passes
  one_pass h k e = rw (lt-ltb 0 p h, lt-ltb 0 limit k, e)

-- n bits were sent: none is erased, or those from n on
pub all_sent : (erased : ℕ → Bool) (es : List Edge) (w : List ℕ) (t n limit : ℕ) → t ≤ n → filled w 0 ≡ erasure_passes erased es (t - n) limit w
all_sent erased es w t n limit h = no_bits erased es (t - n) limit w (omega arith)

pub erased_by : (rs : List EdgeRun) (w b w' : List ℕ) (m n limit : ℕ) → ((erased : ℕ → Bool) (u : List ℕ) → Marked erased u b → w' ≡ voted erased (laid m (length b) rs) u)
    → b ≡ set_from n 2 w → length b ≡ length w → Bits w → n < length w → (limit ≡ 0 → ⊥)
    → filled w' 0 ≡ erasure_passes (from_on n (length w)) (laid m (length w) rs) (length w - n) limit w
erased_by rs w b w' m n limit v e l bits h k =
    one_pass (from_on n (length w)) (laid m (length w) rs) (length w - n) limit w (omega arith) (omega arith)
    (rw l at (v (from_on n (length w)) w (rw e (marked n w bits))))

pub ruleset erasing = (vote_by, all_sent, no_limit, erased_by, rules)
