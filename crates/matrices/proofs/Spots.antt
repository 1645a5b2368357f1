-- How many edges of circulants join a check and a bit, by block and offset, and how the number turns. Assumes nothing.
use mathlib.Core.Bool.{Bool}
use mathlib.Core.List.{List}
use mathlib.Core.Path.{◌≡◌, ap, ◌∙◌, fun_ext}
use Prim.Native.Nat.{ℕ, ◌+◌, ◌*◌, ◌%◌, ◌<◌}
use native.Mathlib.Nat.{mod-lt}
use lib.Dec.{T, eqb, eqb→eq}
use Rattle.maths.specs.Tests.{both}
use Rattle.maths.specs.Tally.{tally}
use Rattle.maths.proofs.Tests.{both_left, both_right}
use Rattle.maths.proofs.Turns.{turn_term, turn_eqb}
use Rattle.matrices.specs.Circulants.{Circ, ring, edges_of}
use Rattle.matrices.specs.Counts.{count}
use Rattle.matrices.proofs.Rows.{count_laid}

-- row t of the circulant has its edge to offset x of the block of bits p
abbrev pub reaches : ℕ → ℕ → ℕ → ℕ → Circ → Bool
reaches b t p x k = both (eqb k.col p) (eqb ((k.turn + t) % b) x)

-- and the circulant is in the block of checks a
abbrev pub covers : ℕ → ℕ → ℕ → ℕ → ℕ → Circ → Bool
covers b a t p x k = both (eqb k.row a) (reaches b t p x k)

-- how many circulants join row t of the block of checks a and offset x of the block of bits p
abbrev pub count_at : ℕ → List Circ → ℕ → ℕ → ℕ → ℕ → ℕ
count_at b ks a t p x = tally (covers b a t p x) ks

pub reached : (b t p x : ℕ) (k : Circ) → T (reaches b t p x k) → (k.col ≡ p) × ((k.turn + t) % b ≡ x)
reached b t p x k h =
    let z = (k.turn + t) % b in
    (eqb→eq k.col p (both_left (eqb k.col p) (eqb z x) h), eqb→eq z x (both_right (eqb k.col p) (eqb z x) h))

module _ (b : ℕ) (pos : 0 < b) (ks : List Circ) where
  pub count_circs : (a t p x : ℕ) → t < b → x < b → count (edges_of b ks) (a * b + t) (p * b + x) ≡ count_at b ks a t p x
  unfolding edges_of ring
  count_circs a t p x ht hx =
      count_laid b (λ k. k.row) (λ k. k.col) (λ k i. (k.turn + i) % b) ks a t p x ht hx (λ k. mod-lt (k.turn + t) pos)

  -- as many where both ends are turned
  pub count_turn : (e a t p x : ℕ) → t < b → x < b
      → count (edges_of b ks) (a * b + t) (p * b + x) ≡ count_at b ks a ((t + e) % b) p ((x + e) % b)
  count_turn e a t p x ht hx = count_circs a t p x ht hx ∙ ap (λ (f : Circ → Bool). tally f ks) (fun_ext turn)
    where
      turn : (k : Circ) → covers b a t p x k ≡ covers b a ((t + e) % b) p ((x + e) % b) k
      turn k =
          rw (← turn_term b k.turn t e, turn_eqb b ((k.turn + t) % b) x e (mod-lt (k.turn + t) pos) hx)
