-- No edge of a code stands twice. Assumes nothing.
use mathlib.Core.Bool.{Bool}
use mathlib.Core.List.{List, flat_map}
use mathlib.Core.Path.{refl, sym, ◌∙◌}
use Prim.Native.Nat.{ℕ, ◌/◌, ◌%◌, ◌≤◌, ◌<◌}
use native.Mathlib.Nat.{mod-lt, div-add-mod'}
use borrow.Author.Tests.{eq-eqb}
use lib.Dec.{T, eqb, eqb→eq}
use Rattle.maths.specs.Tests.{both, below}
use Rattle.maths.specs.Lists.{span}
use Rattle.maths.specs.Tally.{apart}
use Rattle.maths.proofs.Tests.{both_left, both_right, below_at}
use Rattle.maths.proofs.Tally.{tally_once}
use Rattle.maths.proofs.Turns.{turn_alike}
use Rattle.tables.specs.Tables.{prototypes, thetas}
use Rattle.codes.specs.Codes.{codes, Known, rows, tables, circulant_of}
use Rattle.codes.specs.Blocks.{block_of, cell_blocks, row_blocks, last_rows}
use Rattle.codes.specs.Edges.{blocks_of, edges}
use Rattle.matrices.specs.Circulants.{Circ, circs_at, block_circs, circs}
use Rattle.matrices.specs.Counts.{count}
use Rattle.matrices.proofs.Sizes.{sizes}
use Rattle.matrices.proofs.Circulants.{edges_circs}
use Rattle.matrices.proofs.Spots.{reaches, covers, reached, count_at, count_circs}

-- two circulants are the same matrix at the same place
alike : ℕ → Circ → Circ → Bool
alike b k l = both (eqb k.row l.row) (both (eqb k.col l.col) (eqb (k.turn % b) (l.turn % b)))

all_apart : T (below codes (λ code. apart (alike (circulant_of code)) (circs code)))
unfolding alike circs block_circs circs_at span rows tables thetas prototypes blocks_of last_rows row_blocks cell_blocks block_of flat_map
all_apart = tt

module _ (b : ℕ) (pos : 0 < b) (a t p x : ℕ) where
  -- two that join the same check and bit are alike
  cover_alike : (k l : Circ) → T (covers b a t p x k) → T (covers b a t p x l) → T (alike b k l)
  unfolding alike
  cover_alike k l g h =
      let m = reached b t p x k (both_right (eqb k.row a) (reaches b t p x k) g) in
      let n = reached b t p x l (both_right (eqb l.row a) (reaches b t p x l) h) in
      let i = eqb→eq k.row a (both_left (eqb k.row a) (reaches b t p x k) g) in
      let j = eqb→eq l.row a (both_left (eqb l.row a) (reaches b t p x l) h) in
      let turn = turn_alike b k.turn l.turn t pos (m.1 ∙ sym n.1) in
      rw (i, j, m.0, n.0, turn, eq-eqb a a refl, eq-eqb p p refl, eq-eqb (l.turn % b) (l.turn % b) refl) tt

  once_circs : (ks : List Circ) → T (apart (alike b) ks) → count_at b ks a t p x ≤ 1
  once_circs ks h = tally_once (covers b a t p x) (alike b) ks h cover_alike

-- at most one edge joins a check and a bit
pub once : (code a v : ℕ) → Known code → count (edges code) a v ≤ 1
once code a v h =
    let b = circulant_of code in
    let pos = (sizes code h).some in
    let apart_here = below_at codes (λ k. apart (alike (circulant_of k)) (circs k)) all_apart code h in
    let e = count_circs b pos (circs code) (a / b) (a % b) (v / b) (v % b) (mod-lt a pos) (mod-lt v pos) in
    rw (edges_circs code h, rw (div-add-mod' a b, div-add-mod' v b) at e)
    (once_circs b pos (a / b) (a % b) (v / b) (v % b) (circs code) apart_here)
