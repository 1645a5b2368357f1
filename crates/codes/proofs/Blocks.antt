-- The order of the blocks, one step at a time. Assumes nothing.
use mathlib.Core.Path.{◌≡◌, refl, sym, ap, ◌∙◌}
use mathlib.Core.List.{List, [], ◌∷◌, ◌++◌, append_assoc}
use Prim.Native.Nat.{ℕ, suc, ◌+◌, ◌-◌, ◌≤◌, ◌<◌}
use native.Mathlib.Omega.{arith}
use borrow.Author.Rules.{rules}
use Rattle.codes.specs.declared.parity_iter.Place.{Place}
use Rattle.std.specs.Prelude.{Option, Some, None}
use Rattle.codes.specs.declared.parity_iter.Block.{Block}
use Rattle.codes.specs.declared.parity_iter.Block.TheVariants.{Ends, Empty, Identity, Permutation}
use Rattle.codes.specs.Blocks.{
  byte_at,
  block_of,
  place,
  layered,
  cell_blocks,
  row_blocks,
  last_rows,
  blocks,
  cells_from,
  blocks_from,
  head_of,
}

module _ (H : List (List (List ℕ))) (r c : ℕ) where
  cell_step : c < 11 → cells_from H r c ≡ blocks_from H r c 0
  unfolding cells_from blocks_from row_blocks
  cell_step h =
      let e : 11 - c ≡ suc (10 - c) = omega arith in
      let e' : 11 - (c + 1) ≡ 10 - c = omega arith in
      let k : 10 - (10 - c) ≡ c = omega arith in
      rw (e, e', k, append_assoc)

  row_step : 11 ≤ c → r < 3 → cells_from H r c ≡ cells_from H (r + 1) 0
  unfolding cells_from row_blocks last_rows
  row_step g h =
      let z : 11 - c ≡ 0 = omega arith in
      let e : 3 - r ≡ suc (2 - r) = omega arith in
      let e' : 3 - (r + 1) ≡ 2 - r = omega arith in
      let k : 3 - (2 - r) ≡ r + 1 = omega arith in
      rw (z, e, e', k)

  last_step : 11 ≤ c → 3 ≤ r → cells_from H r c ≡ []
  unfolding cells_from row_blocks last_rows
  last_step g h =
      let z : 11 - c ≡ 0 = omega arith in
      let e : 3 - r ≡ 0 = omega arith in
      rw (z, e)

  module _ (l : ℕ) where
    spent_step : 3 ≤ l → blocks_from H r c l ≡ cells_from H r (c + 1)
    unfolding blocks_from cell_blocks
    spent_step h =
        let z : 3 - l ≡ 0 = omega arith in
        rw z

    -- a layer, and then the layers after it
    layer_step : l < 3 → cell_blocks H r c (3 - l) ≡ layered (block_of (byte_at H l r c)) (place r c l) (cell_blocks H r c (3 - (l + 1)))
    unfolding cell_blocks
    layer_step h =
        let e : 3 - l ≡ suc (2 - l) = omega arith in
        let e' : 3 - (l + 1) ≡ 2 - l = omega arith in
        let k : 2 - (2 - l) ≡ l = omega arith in
        rw (e, e', k)

    -- a layer that is the block b
    block_step : (b : Block) → l < 3 → b ≡ block_of (byte_at H l r c)
        → blocks_from H r c l ≡ layered b (place r c l) (cell_blocks H r c (3 - (l + 1))) ++ cells_from H r (c + 1)
    unfolding blocks_from
    block_step b h e = rw (layer_step h, ← e)

    end_step : l < 3 → Ends ≡ block_of (byte_at H l r c) → blocks_from H r c l ≡ cells_from H r (c + 1)
    end_step h e = block_step Ends h e

    skip_step : l < 3 → Empty ≡ block_of (byte_at H l r c) → blocks_from H r c l ≡ blocks_from H r c (l + 1)
    unfolding blocks_from
    skip_step h e = block_step Empty h e

    identity_step : (v : ℕ) → l < 3 → Identity v ≡ block_of (byte_at H l r c)
        → blocks_from H r c l ≡ place r c l ∷ blocks_from H r c (l + 1)
    unfolding blocks_from
    identity_step v h e = block_step (Identity v) h e

    permutation_step : (v : ℕ) → l < 3 → Permutation v ≡ block_of (byte_at H l r c)
        → blocks_from H r c l ≡ place r c l ∷ blocks_from H r c (l + 1)
    unfolding blocks_from
    permutation_step v h e = block_step (Permutation v) h e

-- the blocks from the first place on are all
pub from_first : (H : List (List (List ℕ))) → blocks_from H 0 0 0 ≡ blocks H
unfolding cells_from last_rows
from_first H = sym (cell_step H 0 0 (omega arith))

-- ---- the loop that asks place after place: the first block from here on is the answer, and none past the last row
pub record Asking (H : List (List (List ℕ))) (answer : Option Place) (r c l : ℕ) : Type 0 where
  pub low : c < 11
  pub here : r < 4 → head_of (blocks_from H r c l) ≡ answer
  pub past : 4 ≤ r → None ≡ answer

pub ask_begins : (H : List (List (List ℕ))) (r c l : ℕ) → r < 4 → c < 11 → Asking H (head_of (blocks_from H r c l)) r c l
ask_begins H r c l h k = record { low = k; here = λ _. refl; past = λ g. absurd (omega arith) }

module _ {H : List (List (List ℕ))} {answer : Option Place} {r c l : ℕ} (a : Asking H answer r c l) where
  pub ask_nothing : 4 ≤ r → None ≡ answer
  ask_nothing h = a.past h

  module _ (h : r < 4) where
    headed : {ps : List Place} → blocks_from H r c l ≡ ps → head_of ps ≡ answer
    headed e = ap head_of (sym e) ∙ a.here h

    -- a layer: what its byte says
    module _ (k : Block) (e : k ≡ block_of (byte_at H l r c)) (b : l < 3) where
      pub ask_ended : k ≡ Ends → Asking H answer r c 3
      ask_ended f = record { low = a.low; here = λ _. headed (end_step H r c l b (sym f ∙ e) ∙ sym (spent_step H r c 3 (omega arith))); past = λ g. absurd (omega arith) }

      pub ask_skips : k ≡ Empty → Asking H answer r c (l + 1)
      ask_skips f = record { low = a.low; here = λ _. headed (skip_step H r c l b (sym f ∙ e)); past = λ g. absurd (omega arith) }

      ask_identity : (v : ℕ) → k ≡ Identity v → Some (place r c l) ≡ answer
      ask_identity v f = headed (identity_step H r c l v b (sym f ∙ e))

      ask_permutation : (v : ℕ) → k ≡ Permutation v → Some (place r c l) ≡ answer
      ask_permutation v f = headed (permutation_step H r c l v b (sym f ∙ e))

      ask_full : (b : Block) → k ≡ b → (k ≡ Ends → ⊥) → (k ≡ Empty → ⊥) → Some (place r c l) ≡ answer
      ask_full Ends f x y = absurd (x f)
      ask_full Empty f x y = absurd (y f)
      ask_full (Identity v) f x y = ask_identity v f
      ask_full (Permutation v) f x y = ask_permutation v f

      -- a byte that neither ends the cell nor leaves the layer empty
      pub ask_found : (k ≡ Ends → ⊥) → (k ≡ Empty → ⊥) → Some (place r c l) ≡ answer
      ask_found x y = ask_full k refl x y

    -- a spent cell
    module _ (b : 3 ≤ l) where
      pub ask_cell : (c + 1 ≡ 11 → ⊥) → Asking H answer r (c + 1) 0
      ask_cell n =
          record {
            low = omega (arith, a.low);
            here = λ _. headed (spent_step H r c l b ∙ cell_step H r (c + 1) (omega (arith, a.low)));
            past = λ g. absurd (omega arith);
          }

      pub ask_row : c + 1 ≡ 11 → Asking H answer (r + 1) 0 0
      ask_row e =
          record {
            low = omega arith;
            here = λ g. headed (spent_step H r c l b ∙ row_step H r (c + 1) (omega arith) (omega arith) ∙ cell_step H (r + 1) 0 (omega arith));
            past = λ g. headed (spent_step H r c l b ∙ last_step H r (c + 1) (omega arith) (omega arith));
          }

pub ruleset asking = (ask_begins, ask_nothing, ask_ended, ask_skips, ask_found, ask_cell, ask_row, rules)
