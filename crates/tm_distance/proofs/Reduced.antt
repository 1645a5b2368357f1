-- A matrix of circulants without its punctured columns: each is replaced by the rest of the row in which it is the only one. Assumes nothing.
use mathlib.Core.Bool.{Bool, true, false, not}
use mathlib.Core.List.{List, [], ◌∷◌, ◌++◌, map, flat_map}
use mathlib.Core.Path.{◌≡◌, refl, sym, ap, ◌∙◌, subst}
use Prim.Native.Nat.{ℕ, ◌+◌, ◌-◌, ◌*◌, ◌%◌, ◌≤◌, ◌<◌}
use native.Mathlib.Nat.{zero-add, mod-lt, mod-eq_of_lt}
use native.Mathlib.Omega.{arith}
use lib.Dec.{T, eqb, ltb, leb}
use borrow.Author.Tests.{ltb-true, leb-true}
use Rattle.maths.specs.Tests.{pick}
use Rattle.maths.specs.Lists.{keep}
use Rattle.maths.proofs.Tests.{both_first, both_second, pick_same}
use Rattle.maths.proofs.Turns.{turn_term}
use Rattle.matrices.specs.Circulants.{Circ, circ}
use Rattle.matrices.proofs.Rows.{in_row, sum_row}
use Rattle.low_weights.proofs.Turned.{EvenRows}
use Rattle.bit_flip.specs.Erasures.{from_on}
use Rattle.telemetry.proofs.Punctured.{alone_test, punct_is}

-- the columns from nb up to tb are punctured, and nb + j is the only one of them in row r + j
module _ (b nb tb r : ℕ) (ks : List Circ) where
  -- the circulants of a row that are sent
  abbrev sent_in : ℕ → List Circ
  sent_in a = keep (λ l. not (from_on nb tb l.col)) (in_row ks a)

  -- one circulant after the other
  abbrev after : Circ → Circ → Circ
  after k l = circ k.row l.col ((l.turn + k.turn) % b)

  -- what stands for a circulant: itself, or the rest of the row in which its column is the only punctured one
  abbrev pub stands_for : Circ → List Circ
  stands_for k = pick (from_on nb tb k.col) (map (after k) (sent_in (r + (k.col - nb)))) (k ∷ [])

  -- the rows above those, without punctured columns
  abbrev pub reduced : List Circ
  reduced = flat_map stands_for (keep (λ k. ltb k.row r) ks)

-- the sum over row a at offset t, of a word given by block and offset
module _ (b : ℕ) (W : ℕ → ℕ → ℕ) (a t : ℕ) where
  abbrev pub total : List Circ → ℕ
  total js = sum_row b (in_row js a) W t

  -- what one circulant adds
  abbrev pub one : Circ → ℕ
  one k = pick (eqb k.row a) (W k.col ((k.turn + t) % b)) 0

  pub total_cons : (k : Circ) (js : List Circ) → total (k ∷ js) ≡ one k + total js
  total_cons k js = go (eqb k.row a)
    where
      go : (x : Bool) → sum_row b (pick x (k ∷ in_row js a) (in_row js a)) W t ≡ pick x (W k.col ((k.turn + t) % b)) 0 + total js
      go true = refl
      go false = sym (zero-add (total js))

  pub total_append : (is js : List Circ) → total (is ++ js) ≡ total is + total js
  total_append [] js = sym (zero-add (total js))
  total_append (i ∷ is) js = omega (arith, total_cons i (is ++ js), total_append is js, total_cons i is)

split_row : (b : ℕ) (W : ℕ → ℕ → ℕ) (f : Circ → Bool) (js : List Circ) (t : ℕ)
    → sum_row b js W t ≡ sum_row b (keep f js) W t + sum_row b (keep (λ k. not (f k)) js) W t
split_row b W f [] t = refl
split_row b W f (k ∷ js) t = go (f k) (split_row b W f js t)
  where
    go : (x : Bool) → sum_row b js W t ≡ sum_row b (keep f js) W t + sum_row b (keep (λ k. not (f k)) js) W t
        → W k.col ((k.turn + t) % b) + sum_row b js W t
        ≡ sum_row b (pick x (k ∷ keep f js) (keep f js)) W t + sum_row b (pick (not x) (k ∷ keep (λ k. not (f k)) js) (keep (λ k. not (f k)) js)) W t
    go true ih = omega arith
    go false ih = omega arith

module _ (b nb tb pb r mb : ℕ) (pos : 0 < b) (bits : tb ≡ nb + pb) (room : r + pb ≤ mb) (ks : List Circ) (test : T (alone_test nb tb pb r ks))
    (w : ℕ → ℕ) (even : EvenRows b mb ks w) where
  abbrev W : ℕ → ℕ → ℕ
  W q x = w (q * b + x)

  -- a punctured bit is the parity of the sent bits of its row
  lone_row : (j y : ℕ) → j < pb → y < b → W (nb + j) y % 2 ≡ sum_row b (sent_in b nb tb r ks (r + j)) W y % 2
  lone_row j y hj hy =
      let row = in_row ks (r + j) in
      let alone : sum_row b (keep (λ k. from_on nb tb k.col) row) W y ≡ W (nb + j) ((0 + y) % b) + 0 =
      ap (λ (js : List Circ). sum_row b js W y) (punct_is nb tb pb r ks test j hj) in
      let self : W (nb + j) ((0 + y) % b) ≡ W (nb + j) y = ap (W (nb + j)) (ap (λ (x : ℕ). x % b) (zero-add y) ∙ mod-eq_of_lt hy) in
      omega (arith, alone, self, split_row b W (λ k. from_on nb tb k.col) row y, even (r + j) y (omega arith) hy)

  module _ (a t : ℕ) (ha : a < r) (ht : t < b) where
    -- circulants after one of row a
    after_total : (k : Circ) (ls : List Circ) → total b W a t (map (after b nb tb r ks k) ls) ≡ pick (eqb k.row a) (sum_row b ls W ((k.turn + t) % b)) 0
    after_total k [] = sym (pick_same (eqb k.row a) 0)
    after_total k (l ∷ ls) =
        total_cons b W a t (after b nb tb r ks k l) (map (after b nb tb r ks k) ls)
        ∙ ap (λ (x : ℕ). one b W a t (after b nb tb r ks k l) + x) (after_total k ls)
        ∙ rw (turn_term b l.turn k.turn t) (go (eqb k.row a))
      where
        here : ℕ
        here = W l.col ((l.turn + (k.turn + t) % b) % b)

        rest : ℕ
        rest = sum_row b ls W ((k.turn + t) % b)

        go : (x : Bool) → pick x here 0 + pick x rest 0 ≡ pick x (here + rest) 0
        go true = refl
        go false = refl

    -- what stands for a circulant adds as much
    pub stands_total : (k : Circ) → total b W a t (stands_for b nb tb r ks k) % 2 ≡ one b W a t k % 2
    stands_total k = go (from_on nb tb k.col) refl
      where
        j : ℕ
        j = k.col - nb

        y : ℕ
        y = (k.turn + t) % b

        alike : (x : Bool) (u v : ℕ) → u % 2 ≡ v % 2 → pick x u 0 % 2 ≡ pick x v 0 % 2
        alike true u v e = e
        alike false u v e = refl

        go : (x : Bool) → from_on nb tb k.col ≡ x
            → total b W a t (pick x (map (after b nb tb r ks k) (sent_in b nb tb r ks (r + j))) (k ∷ [])) % 2 ≡ one b W a t k % 2
        go false e = omega (arith, total_cons b W a t k [])
        go true e =
            let low : nb ≤ k.col = leb-true nb k.col (both_first (leb nb k.col) (ltb k.col tb) e) in
            let high : k.col < tb = ltb-true k.col tb (both_second (leb nb k.col) (ltb k.col tb) e) in
            let i : nb + j ≡ k.col = omega arith in
            let lone = subst (λ (q : ℕ). W q y % 2 ≡ sum_row b (sent_in b nb tb r ks (r + j)) W y % 2) i (lone_row j y (omega arith) (mod-lt (k.turn + t) pos)) in
            ap (λ (x : ℕ). x % 2) (after_total k (sent_in b nb tb r ks (r + j)))
            ∙ sym (alike (eqb k.row a) (W k.col y) (sum_row b (sent_in b nb tb r ks (r + j)) W y) lone)
