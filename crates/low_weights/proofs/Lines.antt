-- The bits of a check and the checks of a bit, from circulants: the search over them. Assumes nothing.
use mathlib.Core.Bool.{Bool, true, false}
use mathlib.Core.Path.{◌≡◌, refl, sym, ap, ◌∙◌, fun_ext, subst}
use mathlib.Core.List.{List, [], map}
use Prim.Native.Nat.{ℕ, ◌+◌, ◌-◌, ◌*◌, ◌/◌, ◌%◌, ◌≤◌, ◌<◌}
use native.Mathlib.Nat.{add_comm, mod-lt, mod-eq_of_lt, div-add-mod', div-lt_iff_lt-mul}
use native.Mathlib.Decide.{dec_lt}
use native.Mathlib.Omega.{arith}
use lib.Dec.{T, eqb, ltb, ltb→lt, lt→ltb}
use lib.Arith.{digits_lt}
use lib.ListN.{get_or, get_or-eq_default, get_or-map}
use borrow.Author.Tests.{ne_eqb, eqb-true}
use Rattle.maths.specs.Tests.{pick, both, all}
use Rattle.maths.specs.Lists.{span}
use Rattle.maths.specs.Tally.{tally}
use Rattle.maths.specs.Sums.{sum_l, Even}
use Rattle.maths.proofs.Tests.{both_left, both_right, both_false, both_swap, eqb_swap}
use Rattle.maths.proofs.Tally.{tally_keep, tally_false, sum_tally}
use Rattle.maths.proofs.Lists.{span_length, all_kept, keep_nothing}
use Rattle.maths.proofs.Slices.{span_get}
use Rattle.maths.proofs.Digits.{digits_eqb}
use Rattle.maths.proofs.Turns.{turn_back, turn_eqb}
use Rattle.matrices.specs.Circulants.{Circ, spot}
use Rattle.matrices.proofs.Rows.{in_row, in_column, sum_row, sum_row_lem}
use Rattle.low_weights.proofs.Occurs.{occurs}

-- the check at offset x of the column of a circulant
abbrev pub check_to : ℕ → ℕ → Circ → ℕ
check_to b x k = k.row * b + (x + (b - k.turn % b)) % b

abbrev pub bits_on : ℕ → List Circ → ℕ → List ℕ
bits_on b ks c = let t = c % b in map (spot b t) (in_row ks (c / b))

-- the circulants of mb rows
abbrev pub rows_of : List Circ → ℕ → List (List Circ)
rows_of ks mb = span (in_row ks) 0 mb

-- the bits of a check out of these
abbrev pub row_bits : ℕ → List (List Circ) → ℕ → List ℕ
row_bits b rows c = let t = c % b in map (spot b t) (get_or rows (c / b) [])

-- the circulants of nb columns, each by mb rows
abbrev pub column_circs : List Circ → ℕ → ℕ → List (List Circ)
column_circs ks mb p = span (λ a. in_column (in_row ks a) p) 0 mb

abbrev pub columns_of : List Circ → ℕ → ℕ → List (List (List Circ))
columns_of ks mb nb = span (column_circs ks mb) 0 nb

-- by rows
abbrev pub checks_on : ℕ → List (List (List Circ)) → ℕ → List (List ℕ)
checks_on b columns v = let x = v % b in map (map (check_to b x)) (get_or columns (v / b) [])

-- the circulant stands in mb rows and nb columns
abbrev pub inside : ℕ → ℕ → Circ → Bool
inside mb nb k = both (ltb k.row mb) (ltb k.col nb)

module _ (b : ℕ) (pos : 0 < b) where
  -- a check is one of a bit's where the bit is one of the check's
  pub joined : (a t p x : ℕ) → t < b → x < b → (k : Circ)
      → both (eqb k.col p) (eqb (check_to b x k) (a * b + t)) ≡ both (eqb k.row a) (eqb (spot b t k) (p * b + x))
  joined a t p x ht hx k =
      let e = b - k.turn % b in
      let s = (k.turn + t) % b in
      let back : (s + e) % b ≡ t = ap (λ (y : ℕ). (y % b + e) % b) (add_comm k.turn t) ∙ turn_back b t k.turn pos ∙ mod-eq_of_lt ht in
      let same = sym (turn_eqb b x s e hx (mod-lt (k.turn + t) pos)) ∙ ap (eqb ((x + e) % b)) back in
      rw (
        digits_eqb b k.row a (mod-lt (x + e) pos) ht,
        digits_eqb b k.col p (mod-lt (k.turn + t) pos) hx,
        ← same,
        eqb_swap s x,
      ) (both_swap (eqb k.col p) (eqb k.row a) (eqb x s))

module _ (b mb nb : ℕ) (pos : 0 < b) (ks : List Circ) (ranged : T (all (inside mb nb) ks)) where
  -- no row has a number from mb on
  row_empty : (a : ℕ) → mb ≤ a → in_row ks a ≡ []
  row_empty a h =
      keep_nothing (inside mb nb) (λ k. eqb k.row a) ks ranged
      (λ k t. ne_eqb k.row a (λ e. omega (arith, ltb→lt k.row mb (both_left (ltb k.row mb) (ltb k.col nb) t))))

  row_at : (a : ℕ) → get_or (rows_of ks mb) a [] ≡ in_row ks a
  row_at a = go (dec_lt a mb)
    where
      go : Dec (a < mb) → get_or (rows_of ks mb) a [] ≡ in_row ks a
      go (yes h) = span_get (in_row ks) [] mb a h
      go (no h) = get_or-eq_default (rows_of ks mb) [] {n = a} (rw (span_length (in_row ks) 0 mb) (omega arith)) ∙ sym (row_empty a (omega arith))

  pub row_bits_lem : row_bits b (rows_of ks mb) ≡ bits_on b ks
  row_bits_lem = fun_ext (λ c. ap (map (spot b (c % b))) (row_at (c / b)))

  column_at : (p a : ℕ) → p < nb → get_or (get_or (columns_of ks mb nb) p []) a [] ≡ in_column (in_row ks a) p
  column_at p a hp = rw (span_get (column_circs ks mb) [] nb p hp) (go (dec_lt a mb))
    where
      go : Dec (a < mb) → get_or (column_circs ks mb p) a [] ≡ in_column (in_row ks a) p
      go (yes h) = span_get (λ a. in_column (in_row ks a) p) [] mb a h
      go (no h) =
          get_or-eq_default (column_circs ks mb p) [] {n = a} (rw (span_length (λ a. in_column (in_row ks a) p) 0 mb) (omega arith))
          ∙ sym (ap (λ (l : List Circ). in_column l p) (row_empty a (omega arith)))

  pub dual : (u c a : ℕ) → u < nb * b → occurs (get_or (checks_on b (columns_of ks mb nb) u) a []) c ≡ occurs (pick (eqb (c / b) a) (bits_on b ks c) []) u
  dual u c a hu =
      let t = c % b in
      let p = u / b in
      let x = u % b in
      ap (λ (l : List ℕ). occurs l c) (get_or-map (map (check_to b x)) (get_or (columns_of ks mb nb) p []) a [])
      ∙ ap (λ (l : List Circ). occurs (map (check_to b x) l) c) (column_at p a ((div-lt_iff_lt-mul pos).1 hu))
      ∙ sum_tally (check_to b x) (in_column (in_row ks a) p) c
      ∙ sym (tally_keep (λ k. eqb k.col p) (λ k. eqb (check_to b x k) c) (in_row ks a))
      ∙ sym (tally_keep (λ k. eqb k.row a) (λ k. both (eqb k.col p) (eqb (check_to b x k) c)) ks)
      ∙ ap (λ (f : Circ → Bool). tally f ks) (fun_ext at)
      ∙ in_row_lem (eqb (c / b) a)
    where
      at : (k : Circ) → both (eqb k.row a) (both (eqb k.col (u / b)) (eqb (check_to b (u % b) k) c))
          ≡ both (eqb (c / b) a) (both (eqb k.row (c / b)) (eqb (spot b (c % b) k) u))
      at k =
          let same = rw (div-add-mod' c b, div-add-mod' u b) at (joined b pos (c / b) (c % b) (u / b) (u % b) (mod-lt c pos) (mod-lt u pos) k) in
          rw same (go (eqb k.row (c / b)) refl)
        where
          go : (y : Bool) → eqb k.row (c / b) ≡ y
              → both (eqb k.row a) (both y (eqb (spot b (c % b) k) u)) ≡ both (eqb (c / b) a) (both y (eqb (spot b (c % b) k) u))
          go true e = ap (λ (i : ℕ). both (eqb i a) (eqb (spot b (c % b) k) u)) (eqb-true k.row (c / b) e)
          go false e = both_false (eqb k.row a) ∙ sym (both_false (eqb (c / b) a))

      in_row_lem : (y : Bool) → tally (λ k. both y (both (eqb k.row (c / b)) (eqb (spot b (c % b) k) u))) ks ≡ occurs (pick y (bits_on b ks c) []) u
      in_row_lem true =
          tally_keep (λ k. eqb k.row (c / b)) (λ k. eqb (spot b (c % b) k) u) ks ∙ sym (sum_tally (spot b (c % b)) (in_row ks (c / b)) u)
      in_row_lem false = tally_false ks

  pub bits_low : (c : ℕ) → T (all (λ v. ltb v (nb * b)) (bits_on b ks c))
  bits_low c =
      all_kept (inside mb nb) (λ k. eqb k.row (c / b)) (spot b (c % b)) (λ v. ltb v (nb * b)) ks ranged
      (λ k h. lt→ltb _ _ (digits_lt (ltb→lt k.col nb (both_right (ltb k.row mb) (ltb k.col nb) h)) (mod-lt (k.turn + c % b) pos)))

  -- the sum of a check, from those below mb blocks
  pub bits_even : (w : ℕ → ℕ) → ((a t : ℕ) → a < mb → t < b → Even (sum_row b (in_row ks a) (λ q x. w (q * b + x)) t)) → (c : ℕ) → Even (sum_l (bits_on b ks c) w)
  bits_even w even c = go (dec_lt (c / b) mb)
    where
      go : Dec (c / b < mb) → Even (sum_l (bits_on b ks c) w)
      go (yes h) = subst Even (sym (sum_row_lem b (in_row ks (c / b)) w (c % b))) (even (c / b) (c % b) h (mod-lt c pos))
      go (no h) =
          rw (row_empty (c / b) (omega arith))
