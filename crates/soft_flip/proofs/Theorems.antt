-- Min-sum puts one flipped bit of a TC word right, where all confidences are of one size: in pass 1. Assumes nothing.
use mathlib.Core.Bool.{true, false}
use mathlib.Core.List.{List, [], ◌∷◌}
use mathlib.Core.Logic.{◌⊎◌, inl, inr}
use mathlib.Core.Path.{◌≡◌, refl, ap, ◌∙◌}
use Prim.Native.Nat.{ℕ, suc, ◌*◌, ◌/◌, ◌%◌, ◌≤◌, ◌<◌}
use native.Mathlib.Nat.{mod-lt, div-add-mod', div-lt_iff_lt-mul}
use native.Mathlib.Omega.{arith}
use lib.Dec.{leb, leb→le}
use lib.IntN.{ℤ}
use lib.ListN.{length}
use Rattle.maths.specs.Ones.{delta}
use Rattle.maths.specs.Budget.{end, run}
use Rattle.maths.proofs.Tests.{below_at}
use Rattle.maths.proofs.Ones.{sum_all}
use Rattle.codes.specs.Codes.{Known, TC, tc_codes, bits_in, checks_in, circulant_of}
use Rattle.codes.specs.Edges.{edges}
use Rattle.codes.specs.Equations.{bits_of, checks_of, par, word_of}
use Rattle.runs.proofs.Flat.{edges_ranged}
use Rattle.codes.proofs.Codes.{tc_sent}
use Rattle.matrices.specs.Circulants.{Circ, circs, edges_of}
use Rattle.matrices.proofs.Sizes.{check_blocks, sizes}
use Rattle.matrices.proofs.Circulants.{of_edges}
use Rattle.matrices.proofs.Once.{once}
use Rattle.matrices.proofs.Rows.{in_row, sum_row, par_row}
use Rattle.two_flips.specs.Flips.{degree}
use Rattle.two_flips.proofs.Scores.{score_at}
use Rattle.two_flips.proofs.Pairs.{own}
use Rattle.two_flips.proofs.Theorems.{share_own, share_few}
use Rattle.min_sum.specs.Confidence.{whole}
use Rattle.min_sum.specs.MinSum.{Messages, hard_bits, start, pass, turn, decoded}
use Rattle.soft_flip.proofs.Tests.{rows_test, rows_hold}
use Rattle.soft_flip.proofs.Right.{Spread, Input, pass₁, hard₁, ends, ends_late}

row_length : (b : ℕ) (js : List Circ) (t : ℕ) → sum_row b js (λ q x. 1) t ≡ length js
row_length b [] t = refl
row_length b (j ∷ js) t = omega (arith, row_length b js t)

module _ (code : ℕ) (tc : TC code) where
  abbrev known : Known code
  known = omega arith

  two_circs : (a : ℕ) → a < check_blocks code * circulant_of code → 2 ≤ length (bits_of (edges_of (circulant_of code) (circs code)) a)
  unfolding rows_test
  two_circs a h =
      let b = circulant_of code in
      let pos = (sizes code known).some in
      let low : a / b < check_blocks code = (div-lt_iff_lt-mul pos).1 h in
      let many = leb→le 2 (length (in_row (circs code) (a / b)))
      (below_at (check_blocks code) (λ c. leb 2 (length (in_row (circs code) c))) (below_at tc_codes rows_test rows_hold code tc) (a / b) low) in
      let e = par_row b (circs code) (λ v. 1) (a / b) (a % b) (mod-lt a pos) ∙ row_length b (in_row (circs code) (a / b)) (a % b) in
      let f : par (edges_of b (circs code)) (λ v. 1) a ≡ length (in_row (circs code) (a / b)) = rw (div-add-mod' a b) at e in
      omega (arith, f, many, sum_all (bits_of (edges_of b (circs code)) a) (λ v. 1) (λ v l. refl))

  two : (a : ℕ) → a < checks_in code → 2 ≤ length (bits_of (edges code) a)
  two = of_edges code known (λ es m n k. (a : ℕ) → a < m → 2 ≤ length (bits_of es a)) two_circs

  -- and every bit three
  own_edges : (x : ℕ) → score_at (edges code) (delta x) x ≡ degree (edges code) x
  own_edges = own (edges code) (checks_in code) (bits_in code) (edges_ranged code known) (λ a v. once code a v known)

  three : (v : ℕ) → v < bits_in code → 3 ≤ length (checks_of (edges code) v)
  three v h = go (share_own code tc v h)
    where
      go : (score_at (edges code) (delta v) v ≡ 3) ⊎ (score_at (edges code) (delta v) v ≡ 5) → 3 ≤ length (checks_of (edges code) v)
      go (inl e) = omega (arith, own_edges v)
      go (inr e) = omega (arith, own_edges v)

  spread : (x : ℕ) → x < bits_in code → Spread (edges code) (checks_in code) (bits_in code) x
  spread x h =
      record {
        low = h;
        ranged = edges_ranged code known;
        two = two;
        three = three;
        own = own_edges x;
        few = λ u l. share_few code tc x h u;
      }

  module _ (top k : ℕ) (fits : suc k ≤ top) (x : ℕ) (h : x < bits_in code) (w : List ℕ) (llrs : List ℤ)
      (input : Input (edges code) (checks_in code) (bits_in code) k x w llrs) where
    sent : (limit : ℕ) → decoded (whole top) code llrs limit
        ≡ run (turn (whole top) (edges code) (checks_in code) 0 llrs) limit 0 (start (whole top) (edges code) (checks_in code) 0 llrs)
    sent limit =
        ap (λ (p : ℕ). run (turn (whole top) (edges code) (checks_in code) p llrs) limit 0 (start (whole top) (edges code) (checks_in code) p llrs)) (tc_sent code tc)

    -- one flipped bit: success in pass 1, with the hard bits of w
    pub soft_one : (limit : ℕ) → 2 ≤ limit
        → (s : Messages ℤ) × (decoded (whole top) code llrs limit ≡ end true 1 s) × ((i : ℕ) → i < bits_in code → hard_bits (whole top) s.marginals i ≡ word_of w i)
    soft_one limit two = (
      pass₁ top k fits (edges code) (checks_in code) (bits_in code) x (spread x h) w llrs input,
      sent limit ∙ ends top k fits (edges code) (checks_in code) (bits_in code) x (spread x h) w llrs input limit two,
      hard₁ top k fits (edges code) (checks_in code) (bits_in code) x (spread x h) w llrs input,
    )

    -- with a limit of 1 there is no success: pass 0 adds no message
    pub soft_late : decoded (whole top) code llrs 1
        ≡ end false 1 (pass (whole top) (edges code) (checks_in code) 0 llrs (start (whole top) (edges code) (checks_in code) 0 llrs))
    soft_late = sent 1 ∙ ends_late top k fits (edges code) (checks_in code) (bits_in code) x (spread x h) w llrs input
