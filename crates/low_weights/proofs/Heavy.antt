-- A word with even checks and a one has more than a few. Assumes nothing.
use mathlib.Core.Logic.{◌≢◌}
use mathlib.Core.Path.{◌≡◌, sym, ap, ◌∙◌, subst}
use mathlib.Core.List.{List, []}
use Prim.Native.Nat.{ℕ, suc, ◌*◌, ◌/◌, ◌%◌, ◌≤◌, ◌<◌}
use native.Mathlib.Nat.{add-zero, zero-add, mod-lt, mod-eq_of_lt, div-add-mod', div-lt_iff_lt-mul}
use native.Mathlib.Decide.{dec_lt}
use native.Mathlib.Omega.{arith}
use lib.Dec.{T, leb, leb→le}
use lib.Arith.{digits_lt}
use lib.ListN.{get_or}
use borrow.Author.Tests.{le-leb}
use Rattle.maths.specs.Tests.{all}
use Rattle.maths.specs.Sums.{sum_n}
use Rattle.maths.proofs.Tests.{both_left, both_right, below_at, all_anywhere, true_T}
use Rattle.matrices.specs.Circulants.{Circ}
use Rattle.low_weights.proofs.Rows.{excess, excess_map}
use Rattle.low_weights.proofs.Light.{none_light}
use Rattle.low_weights.proofs.Lines.{check_to, bits_on, rows_of, row_bits, row_bits_lem, checks_on, columns_of, dual, bits_low, bits_even}
use Rattle.low_weights.proofs.Turned.{EvenRows, rot, turned_word, rot_low, turned_at, turned_even, turned_sum, first_one}
use Rattle.low_weights.proofs.FewOnes.{none_from, none_in, ranged, tested}

module _ (b mb nb : ℕ) (pos : 0 < b) (ks : List Circ) (most r : ℕ) (test : T (none_in b mb nb ks most r)) where
  few : (u : ℕ) → u < nb * b → excess 1 (checks_on b (columns_of ks mb nb) u) ≤ most
  few u hu =
      let columns = columns_of ks mb nb in
      rw (excess_map (check_to b (u % b)) 1 (get_or columns (u / b) []))
      (leb→le _ most (all_anywhere (λ rows. leb (excess 1 rows) most) [] (true_T (leb 0 most) (le-leb 0 most (omega arith))) columns (both_left (all (λ rows. leb (excess 1 rows) most) columns) _ (tested b mb nb pos ks most r test)) (u / b)))

  -- of a word with its first one at the first bit of block q
  first_in_block : (q : ℕ) → q < nb → (w : ℕ → ℕ) → ((v : ℕ) → w v < 2) → ((v : ℕ) → v < q * b → w v ≡ 0) → w (q * b) ≡ 1
      → EvenRows b mb ks w → sum_n (nb * b) w ≤ suc r → ⊥
  first_in_block q hq w bit before one even light =
      let columns = columns_of ks mb nb in
      none_light (bits_on b ks) (checks_on b columns) (λ c. c / b) most (q * b) (nb * b)
      (dual b mb nb pos ks (ranged b mb nb pos ks most r test)) (bits_low b mb nb pos ks (ranged b mb nb pos ks most r test)) few
      r w bit before (rw add-zero at (digits_lt hq pos)) one light (bits_even b mb nb pos ks (ranged b mb nb pos ks most r test) w even)
      (subst (λ (bits : ℕ → List ℕ). T (none_from b bits columns most r q)) (row_bits_lem b mb nb pos ks (ranged b mb nb pos ks most r test))
      (below_at nb (none_from b (row_bits b (rows_of ks mb)) columns most r) (both_right (all (λ rows. leb (excess 1 rows) most) columns) _ (tested b mb nb pos ks most r test)) q hq))

  -- a word of bits with even checks and a one has more than r + 1
  pub heavy : (w : ℕ → ℕ) → ((v : ℕ) → w v < 2) → EvenRows b mb ks w → 0 < sum_n (nb * b) w → suc r < sum_n (nb * b) w
  heavy w bit even some = go (dec_lt (suc r) (sum_n (nb * b) w)) (first_one (nb * b) w some)
    where
      go : Dec (suc r < sum_n (nb * b) w) → (v : ℕ) × (v < nb * b) × (w v ≢ 0) × ((u : ℕ) → u < v → w u ≡ 0) → suc r < sum_n (nb * b) w
      go (yes h) f = h
      go (no h) (v, hv, one, before) = absurd (
          first_in_block q ((div-lt_iff_lt-mul pos).1 hv) (turned_word b e w) (λ u. bit (rot b e u)) zeros
          (here ∙ now) (turned_even b e pos w mb ks even) (omega (arith, turned_sum b e pos w nb)))
        where
          q : ℕ
          q = v / b

          e : ℕ
          e = v % b

          here : turned_word b e w (q * b) ≡ w v
          here =
              ap (turned_word b e w) (sym (add-zero (q * b))) ∙ turned_at b e pos w q 0 pos
              ∙ ap w (rw (zero-add (v % b), mod-eq_of_lt (mod-lt v pos)) (div-add-mod' v b))

          now : w v ≡ 1
          now = omega (arith, bit v)

          zeros : (u : ℕ) → u < q * b → turned_word b e w u ≡ 0
          zeros u hu = before (rot b e u) (omega (arith, rot_low b pos e q u hu, div-add-mod' v b))
