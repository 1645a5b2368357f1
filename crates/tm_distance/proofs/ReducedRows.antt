-- A word that meets the rows of a matrix meets those of the reduced one. Assumes nothing.
use mathlib.Core.Bool.{Bool, true, false}
use mathlib.Core.List.{List, [], ◌∷◌, flat_map}
use mathlib.Core.Path.{◌≡◌, refl, sym, ap, ap₂, ◌∙◌}
use Prim.Native.Nat.{ℕ, ◌+◌, ◌*◌, ◌%◌, ◌≤◌, ◌<◌}
use native.Mathlib.Nat.{add-mod}
use native.Mathlib.Omega.{arith}
use lib.Dec.{T, eqb, ltb}
use borrow.Author.Tests.{ltb-false, eqb-true}
use Rattle.maths.specs.Tests.{pick}
use Rattle.maths.specs.Lists.{keep}
use Rattle.maths.proofs.Lists.{flat_map_cons, flat_map_nil}
use Rattle.matrices.specs.Circulants.{Circ}
use Rattle.low_weights.proofs.Turned.{EvenRows}
use Rattle.telemetry.proofs.Punctured.{alone_test}
use Rattle.tm_distance.proofs.Reduced.{stands_for, reduced, total, one, total_cons, total_append, stands_total}

module _ (b nb tb pb r mb : ℕ) (pos : 0 < b) (bits : tb ≡ nb + pb) (room : r + pb ≤ mb) (ks : List Circ) (test : T (alone_test nb tb pb r ks))
    (w : ℕ → ℕ) (even : EvenRows b mb ks w) where
  abbrev W : ℕ → ℕ → ℕ
  W q x = w (q * b + x)

  module _ (a t : ℕ) (ha : a < r) (ht : t < b) where
    reduced_total : (js : List Circ) → total b W a t (flat_map (stands_for b nb tb r ks) (keep (λ k. ltb k.row r) js)) % 2 ≡ total b W a t js % 2
    reduced_total [] = ap (λ (js : List Circ). total b W a t js % 2) (flat_map_nil (stands_for b nb tb r ks))
    reduced_total (k ∷ js) = go (ltb k.row r) refl (reduced_total js)
      where
        kept : List Circ
        kept = keep (λ k. ltb k.row r) js

        before : List Circ → List Circ
        before = flat_map (stands_for b nb tb r ks)

        off : (x : Bool) → eqb k.row a ≡ x → r ≤ k.row → pick x (W k.col ((k.turn + t) % b)) 0 ≡ 0
        off true e l = absurd (omega (arith, eqb-true k.row a e))
        off false e l = refl

        go : (x : Bool) → ltb k.row r ≡ x → total b W a t (before kept) % 2 ≡ total b W a t js % 2
            → total b W a t (before (pick x (k ∷ kept) kept)) % 2 ≡ total b W a t (k ∷ js) % 2
        go true e ih =
            let parts = ap (total b W a t) (flat_map_cons (stands_for b nb tb r ks) k kept) ∙ total_append b W a t (stands_for b nb tb r ks k) (before kept) in
            ap (λ (x : ℕ). x % 2) parts ∙ add-mod _ _ 2 ∙ ap₂ (λ (x y : ℕ). (x + y) % 2) (stands_total b nb tb pb r mb pos bits room ks test w even a t ha ht k) ih
            ∙ sym (add-mod (one b W a t k) (total b W a t js) 2) ∙ ap (λ (x : ℕ). x % 2) (sym (total_cons b W a t k js))
        go false e ih = omega (arith, total_cons b W a t k js, off (eqb k.row a) refl (ltb-false k.row r e))

  -- a word that meets the rows of a matrix meets those of the reduced one
  pub reduced_even : EvenRows b r (reduced b nb tb r ks) w
  reduced_even a t ha ht = reduced_total a t ha ht ks ∙ even a t (omega arith) ht
