-- The punctured edges of checks and of bits, by circulants: a test of these, and what it says. Assumes nothing.
use mathlib.Core.Bool.{Bool, true, false}
use mathlib.Core.List.{List, [], ◌∷◌, map}
use mathlib.Core.Path.{◌≡◌, refl, sym, ap, ap₂, ◌∙◌, fun_ext}
use Prim.Native.Nat.{ℕ, ◌+◌, ◌-◌, ◌*◌, ◌%◌, ◌≤◌, ◌<◌}
use native.Mathlib.Nat.{add-zero, zero-add, mod-lt, mod-eq_of_lt, mul-le-mul_right}
use native.Mathlib.Decide.{dec_lt}
use native.Mathlib.Omega.{arith}
use lib.Dec.{T, eqb, ltb, leb, eqb→eq}
use lib.Arith.{digits_lt}
use lib.ListN.{length}
use borrow.Author.Tests.{lt-ltb, le-ltb, le-leb, lt-leb}
use Rattle.maths.specs.Tests.{pick, both, below}
use Rattle.maths.specs.Lists.{keep}
use Rattle.maths.proofs.Tests.{both_left, both_right, below_at}
use Rattle.maths.proofs.Lists.{keep_map}
use Rattle.codes.specs.Equations.{checks_of, par}
use Rattle.matrices.specs.Circulants.{Circ, circ, edges_of}
use Rattle.matrices.proofs.Rows.{in_row, in_column, sum_row, par_row}
use Rattle.matrices.proofs.Weights.{row_to, row_to_lem, checks_column}
use Rattle.bit_flip.specs.Erasures.{erased_edges, from_on}

-- ---- a list of one circulant, not turned, in the row a and the column q
abbrev single : ℕ → ℕ → List Circ → Bool
single a q [] = false
single a q (k ∷ []) = both (eqb k.row a) (both (eqb k.col q) (eqb k.turn 0))
single a q (k ∷ l ∷ ks) = false

single_is : (a q : ℕ) (ks : List Circ) → T (single a q ks) → ks ≡ circ a q 0 ∷ []
single_is a q [] h = absurd h
single_is a q (k ∷ []) h =
    let g = both_right (eqb k.row a) (both (eqb k.col q) (eqb k.turn 0)) h in
    let r = eqb→eq k.row a (both_left (eqb k.row a) (both (eqb k.col q) (eqb k.turn 0)) h) in
    let c = eqb→eq k.col q (both_left (eqb k.col q) (eqb k.turn 0) g) in
    let t = eqb→eq k.turn 0 (both_right (eqb k.col q) (eqb k.turn 0) g) in
    rw (← r, ← c, ← t)
single_is a q (k ∷ l ∷ ks) h = absurd h

-- ---- the columns from nb up to tb are punctured
module _ (nb tb : ℕ) where
  -- the punctured circulants of a row, and those circulants of a column whose row has exactly one
  abbrev punct : List Circ → List Circ
  punct js = keep (λ k. from_on nb tb k.col) js

  abbrev alone_in : List Circ → ℕ → List Circ
  alone_in ks p = keep (λ k. eqb (length (punct (in_row ks k.row))) 1) (in_column ks p)

  -- "every punctured bit has a check with no other punctured edge": of pb punctured columns the first has it in the row r, each further one
  -- a row below, and that row has no other punctured circulant
  abbrev pub alone_test : ℕ → ℕ → List Circ → Bool
  alone_test pb r ks =
      below pb (λ j. both (single (r + j) (nb + j) (alone_in ks (nb + j))) (single (r + j) (nb + j) (punct (in_row ks (r + j)))))

  -- in that row it is the only punctured one
  pub punct_is : (pb r : ℕ) (ks : List Circ) → T (alone_test pb r ks) → (j : ℕ) → j < pb → punct (in_row ks (r + j)) ≡ circ (r + j) (nb + j) 0 ∷ []
  punct_is pb r ks test j hj =
      single_is (r + j) (nb + j) _ (both_right (single (r + j) (nb + j) (alone_in ks (nb + j))) _ (below_at pb _ test j hj))

module _ (b nb tb : ℕ) (pos : 0 < b) where
  from_block : (q x : ℕ) → x < b → from_on (nb * b) (tb * b) (q * b + x) ≡ from_on nb tb q
  from_block q x hx = ap₂ both (low (dec_lt q nb)) (high (dec_lt q tb))
    where
      low : Dec (q < nb) → leb (nb * b) (q * b + x) ≡ leb nb q
      low (yes h) = rw (lt-leb nb q h, lt-leb (nb * b) (q * b + x) (digits_lt h hx))
      low (no h) =
          let l : nb * b ≤ q * b = mul-le-mul_right b (omega arith) in
          rw (le-leb nb q (omega arith), le-leb (nb * b) (q * b + x) (omega arith))

      high : Dec (q < tb) → ltb (q * b + x) (tb * b) ≡ ltb q tb
      high (yes h) = rw (lt-ltb q tb h, lt-ltb (q * b + x) (tb * b) (digits_lt h hx))
      high (no h) =
          let l : tb * b ≤ q * b = mul-le-mul_right b (omega arith) in
          rw (le-ltb q tb (omega arith), le-ltb (q * b + x) (tb * b) (omega arith))

  -- the word with 0 for the bits that are sent
  abbrev only : (ℕ → ℕ) → ℕ → ℕ
  only w u = pick (from_on (nb * b) (tb * b) u) (w u) 0

  row_only : (js : List Circ) (w : ℕ → ℕ) (t : ℕ) → sum_row b js (λ q x. only w (q * b + x)) t ≡ sum_row b (punct nb tb js) (λ q x. w (q * b + x)) t
  row_only [] w t = refl
  row_only (k ∷ js) w t = rw (from_block k.col ((k.turn + t) % b) (mod-lt (k.turn + t) pos), row_only js w t) (go (from_on nb tb k.col))
    where
      go : (y : Bool) → pick y (w (k.col * b + (k.turn + t) % b)) 0 + sum_row b (punct nb tb js) (λ q x. w (q * b + x)) t
          ≡ sum_row b (pick y (k ∷ punct nb tb js) (punct nb tb js)) (λ q x. w (q * b + x)) t
      go true = refl
      go false = zero-add (sum_row b (punct nb tb js) (λ q x. w (q * b + x)) t)

  module _ (ks : List Circ) where
    par_only : (w : ℕ → ℕ) (a t : ℕ) → t < b → par (edges_of b ks) (only w) (a * b + t) ≡ sum_row b (punct nb tb (in_row ks a)) (λ q x. w (q * b + x)) t
    par_only w a t h = par_row b ks (only w) a t h ∙ row_only (in_row ks a) w t

    erased_edges_row : (a t : ℕ) → t < b → erased_edges (from_on (nb * b) (tb * b)) (edges_of b ks) (a * b + t) ≡ length (punct nb tb (in_row ks a))
    unfolding erased_edges
    erased_edges_row a t h = par_only (λ v. 1) a t h ∙ ones (punct nb tb (in_row ks a))
      where
        ones : (js : List Circ) → sum_row b js (λ q x. 1) t ≡ length js
        ones [] = refl
        ones (k ∷ js) = omega (arith, ones js)

  module _ (pb r : ℕ) (ks : List Circ) (test : T (alone_test nb tb pb r ks)) (j x : ℕ) (hj : j < pb) (hx : x < b) where
    -- the one circulant
    abbrev at : Circ
    at = circ (r + j) (nb + j) 0

    alone_is : alone_in nb tb ks (nb + j) ≡ at ∷ []
    alone_is = single_is (r + j) (nb + j) _ (both_left (single (r + j) (nb + j) (alone_in nb tb ks (nb + j))) _ (below_at pb _ test j hj))

    -- the checks of a punctured bit with no other punctured edge are one
    pub alone_block : keep (λ a. eqb (erased_edges (from_on (nb * b) (tb * b)) (edges_of b ks) a) 1) (checks_of (edges_of b ks) ((nb + j) * b + x)) ≡ ((r + j) * b + x) ∷ []
    alone_block =
        let f : ℕ → Bool = λ a. eqb (erased_edges (from_on (nb * b) (tb * b)) (edges_of b ks) a) 1 in
        let check : Circ → ℕ = λ k. k.row * b + row_to b pos x k in
        let y = row_to b pos x at in
        let e : y ≡ x = sym (mod-eq_of_lt (mod-lt (x + (b - 0 % b)) pos)) ∙ ap (λ (z : ℕ). z % b) (sym (zero-add y)) ∙ row_to_lem b pos x at hx in
        ap (keep f) (checks_column b pos ks (nb + j) x hx)
        ∙ keep_map f check (in_column ks (nb + j))
        ∙ ap (λ (g : Circ → Bool). map check (keep g (in_column ks (nb + j))))
        (fun_ext (λ k. ap (λ (z : ℕ). eqb z 1) (erased_edges_row ks k.row (row_to b pos x k) (mod-lt (x + (b - k.turn % b)) pos))))
        ∙ ap (map check) alone_is
        ∙ ap {B = List ℕ} (λ (z : ℕ). ((r + j) * b + z) ∷ []) e

    -- the punctured bits of that check: the bit itself
    pub lone_block : (w : ℕ → ℕ) → par (edges_of b ks) (only w) ((r + j) * b + x) ≡ w ((nb + j) * b + x)
    lone_block w =
        par_only ks w (r + j) x hx
        ∙ ap (λ (js : List Circ). sum_row b js (λ q y. w (q * b + y)) x) (punct_is nb tb pb r ks test j hj)
        ∙ add-zero (w ((nb + j) * b + (0 + x) % b))
        ∙ ap (λ (y : ℕ). w ((nb + j) * b + y)) (ap (λ (y : ℕ). y % b) (zero-add x) ∙ mod-eq_of_lt hx)
