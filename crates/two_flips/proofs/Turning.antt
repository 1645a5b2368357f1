-- Errors turned in each block go away as they do unturned. Assumes nothing.
use mathlib.Core.List.{List}
use mathlib.Core.Path.{◌≡◌, sym, ap, ap₂, ◌∙◌}
use Prim.Native.Nat.{ℕ, ◌+◌, ◌-◌, ◌*◌, ◌/◌, ◌%◌, ◌<◌}
use native.Mathlib.Nat.{add-zero, mod-lt, mod-eq_of_lt, mod_self, div-add-mod'}
use native.Mathlib.Decide.{ℕ_discrete}
use native.Mathlib.Omega.{arith}
use lib.Arith.{digits_div, digits_mod}
use Rattle.maths.specs.Ones.{delta}
use Rattle.maths.proofs.Sums.{sum_n_ext, sum_n_blocks}
use Rattle.maths.proofs.Ones.{delta_self, delta_other}
use Rattle.maths.proofs.Turns.{turn_back, turn_term, sum_n_turn}
use Rattle.codes.specs.Equations.{par}
use Rattle.matrices.specs.Circulants.{Circ, edges_of}
use Rattle.matrices.specs.Counts.{count}
use Rattle.matrices.proofs.Edges.{Ranged}
use Rattle.matrices.proofs.Rows.{in_row, par_row, sum_row_turn}
use Rattle.matrices.proofs.Spots.{count_circs, count_turn}
use Rattle.low_weights.proofs.Turned.{rot, turned_word, rot_low, turned_at}
use Rattle.two_flips.proofs.Scores.{score_at, score_sum}
use Rattle.two_flips.proofs.Mends.{Mends, gone, flips}

-- s turns back what r turns
abbrev pub Back : ℕ → ℕ → ℕ → Type 0
Back b r s = (x : ℕ) → ((x + r) % b + s) % b ≡ x % b

module _ (b : ℕ) (pos : 0 < b) where
  pub rot_back : (r s : ℕ) → Back b r s → (v : ℕ) → rot b s (rot b r v) ≡ v
  rot_back r s back v =
      let l = mod-lt (v % b + r) pos in
      rw (digits_div (v / b) l, digits_mod (v / b) l, back (v % b), mod-eq_of_lt (mod-lt v pos)) (div-add-mod' v b)

  pub back_one : (r : ℕ) → Back b r (b - r % b)
  back_one r x = turn_back b x r pos

  pub back_two : (r : ℕ) → r < b → Back b (b - r) r
  back_two r h x =
      let e : b - r + r ≡ b = omega arith in
      turn_term b x (b - r) r ∙ rw (e, mod_self b, add-zero x)

  -- the word with one bit, turned
  pub delta_rot : (r s : ℕ) → Back b r s → Back b s r → (x v : ℕ) → delta x (rot b r v) ≡ delta (rot b s x) v
  delta_rot r s there back x v = go (ℕ_discrete v (rot b s x))
    where
      go : Dec (v ≡ rot b s x) → delta x (rot b r v) ≡ delta (rot b s x) v
      go (yes e) = rw (e, rot_back s r back x) (delta_self x ∙ sym (delta_self (rot b s x)))
      go (no e) = delta_other x (rot b r v) (λ q. e (sym (rot_back r s there v) ∙ ap (rot b s) q)) ∙ sym (delta_other (rot b s x) v e)

module _ (b mb nb : ℕ) (pos : 0 < b) (ks : List Circ) (ranged : Ranged (mb * b) (nb * b) (edges_of b ks)) (r : ℕ) where
  par_rot : (f : ℕ → ℕ) (a t : ℕ) → t < b → par (edges_of b ks) (turned_word b r f) (a * b + t) ≡ par (edges_of b ks) f (a * b + (t + r) % b)
  par_rot f a t ht =
      par_row b ks (turned_word b r f) a t ht
      ∙ sum_row_turn b (in_row ks a) (λ q x. turned_word b r f (q * b + x)) (λ q x. f (q * b + x)) r t pos (turned_at b r pos f)
      ∙ sym (par_row b ks f a ((t + r) % b) (mod-lt (t + r) pos))

  count_rot : (a t v : ℕ) → t < b → count (edges_of b ks) (a * b + t) v ≡ count (edges_of b ks) (a * b + (t + r) % b) (rot b r v)
  count_rot a t v ht =
      ap (count (edges_of b ks) (a * b + t)) (sym (div-add-mod' v b))
      ∙ count_turn b pos ks r a t (v / b) (v % b) ht (mod-lt v pos)
      ∙ sym (count_circs b pos ks a ((t + r) % b) (v / b) ((v % b + r) % b) (mod-lt (t + r) pos) (mod-lt (v % b + r) pos))

  pub score_rot : (f : ℕ → ℕ) (v : ℕ) → score_at (edges_of b ks) (turned_word b r f) v ≡ score_at (edges_of b ks) f (rot b r v)
  score_rot f v =
      let es = edges_of b ks in
      let F : ℕ → ℕ = λ a. par es (turned_word b r f) a % 2 * count es a v in
      let G : ℕ → ℕ = λ a. par es f a % 2 * count es a (rot b r v) in
      score_sum (mb * b) (nb * b) es ranged (turned_word b r f) v
      ∙ sum_n_blocks mb b F
      ∙ sum_n_ext mb _ _ (λ a ha.
      sum_n_ext b (λ t. F (a * b + t)) (λ t. G (a * b + (t + r) % b)) (λ t ht. ap₂ (λ (x y : ℕ). x % 2 * y) (par_rot f a t ht) (count_rot a t v ht))
      ∙ sum_n_turn b r (λ t. G (a * b + t)))
      ∙ sym (sum_n_blocks mb b G)
      ∙ sym (score_sum (mb * b) (nb * b) es ranged f (rot b r v))

  module _ (s : ℕ) (there : Back b r s) (back : Back b s r) where
    pub mends_rot : (k : ℕ) (f : ℕ → ℕ) → Mends (edges_of b ks) (nb * b) k f → Mends (edges_of b ks) (nb * b) k (turned_word b r f)
    mends_rot k f (gone none) = gone (λ v h. none (rot b r v) (rot_low b pos r nb v h))
    mends_rot k f (flips {k = k'} top u g some hu at most next rest) =
        flips top (rot b s u) (turned_word b r g) some (rot_low b pos s nb u hu)
        (score_rot f (rot b s u) ∙ rw (rot_back b pos s r back u) at)
        (λ v h. rw (score_rot f v) (most (rot b r v) (rot_low b pos r nb v h)))
        (λ v h. rw (score_rot f v) (next (rot b r v) (rot_low b pos r nb v h)))
        (mends_rot k' g rest)
