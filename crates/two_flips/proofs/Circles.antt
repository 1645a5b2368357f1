-- The bits of a check and the checks of a bit, from circulants. Assumes nothing.
use mathlib.Core.Bool.{Bool}
use mathlib.Core.List.{List, map}
use mathlib.Core.Path.{◌≡◌, sym, ap, ◌∙◌, fun_ext}
use Prim.Native.Nat.{ℕ, ◌*◌, ◌+◌, ◌/◌, ◌%◌, ◌<◌}
use native.Mathlib.Nat.{mod-lt, div-add-mod'}
use lib.Dec.{eqb}
use Rattle.maths.specs.Tests.{both}
use Rattle.maths.specs.Ones.{delta}
use Rattle.maths.specs.Tally.{tally}
use Rattle.maths.proofs.Tally.{tally_keep, sum_tally}
use Rattle.matrices.specs.Circulants.{Circ, spot, edges_of}
use Rattle.matrices.specs.Counts.{count}
use Rattle.matrices.proofs.Edges.{count_par}
use Rattle.matrices.proofs.Rows.{in_row, in_column, sum_row_lem, par_row}
use Rattle.low_weights.proofs.Occurs.{occurs}
use Rattle.low_weights.proofs.Lines.{check_to, bits_on, joined}

-- the checks of a bit
abbrev pub checks_by : ℕ → List Circ → ℕ → List ℕ
checks_by b ks v = let x = v % b in map (check_to b x) (in_column ks (v / b))

module _ (b : ℕ) (pos : 0 < b) (ks : List Circ) where
  pub bits_count : (c u : ℕ) → occurs (bits_on b ks c) u ≡ count (edges_of b ks) c u
  bits_count c u =
      sum_row_lem b (in_row ks (c / b)) (delta u) (c % b)
      ∙ sym (par_row b ks (delta u) (c / b) (c % b) (mod-lt c pos))
      ∙ sym (count_par (edges_of b ks) (c / b * b + c % b) u)
      ∙ ap (λ (a : ℕ). count (edges_of b ks) a u) (div-add-mod' c b)

  pub check_count : (c u : ℕ) → occurs (checks_by b ks u) c ≡ count (edges_of b ks) c u
  check_count c u =
      let t = c % b in
      let x = u % b in
      sum_tally (check_to b x) (in_column ks (u / b)) c
      ∙ sym (tally_keep (λ k. eqb k.col (u / b)) (λ k. eqb (check_to b x k) c) ks)
      ∙ ap (λ (f : Circ → Bool). tally f ks) (fun_ext at)
      ∙ tally_keep (λ k. eqb k.row (c / b)) (λ k. eqb (spot b t k) u) ks
      ∙ sym (sum_tally (spot b t) (in_row ks (c / b)) u)
      ∙ bits_count c u
    where
      at : (k : Circ) → both (eqb k.col (u / b)) (eqb (check_to b (u % b) k) c) ≡ both (eqb k.row (c / b)) (eqb (spot b (c % b) k) u)
      at k = rw (div-add-mod' c b, div-add-mod' u b) at (joined b pos (c / b) (c % b) (u / b) (u % b) (mod-lt c pos) (mod-lt u pos) k)
