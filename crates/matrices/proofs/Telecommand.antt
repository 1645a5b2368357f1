-- TC128, TC256, TC512: every frame meets the equations, and every column is odd. Assumes nothing.
use mathlib.Core.Bool.{Bool}
use mathlib.Core.List.{List, [], flat_map}
use mathlib.Core.Path.{ap}
use Prim.Native.Nat.{ℕ, ◌%◌, ◌<◌}
use native.Mathlib.Omega.{arith}
use lib.Dec.{T}
use Rattle.maths.specs.Tests.{below}
use Rattle.maths.specs.Lists.{span}
use Rattle.maths.specs.Sums.{sum_n, Even}
use Rattle.maths.proofs.Tests.{below_at}
use Rattle.tables.specs.Tables.{prototypes}
use Rattle.tables.specs.Words.{generators}
use Rattle.codes.specs.Codes.{Known, tc_codes, TC, rows, row_of, bits_in, checks_in, tables, circulant_of}
use Rattle.codes.specs.Blocks.{block_of, cell_blocks, row_blocks, last_rows}
use Rattle.codes.specs.Edges.{blocks_of, edges}
use Rattle.codes.specs.Equations.{Meets}
use Rattle.codes.proofs.Codes.{tc_sent}
use Rattle.runs.proofs.Flat.{edges_ranged}
use Rattle.matrices.specs.Circulants.{Circ, circs, circs_at, block_circs}
use Rattle.codes.specs.Frames.{frame_of}
use Rattle.matrices.specs.Generators.{g_entry}
use Rattle.matrices.specs.Columns.{Odd}
use Rattle.matrices.proofs.Sizes.{bit_blocks, sizes}
use Rattle.matrices.proofs.Circulants.{of_edges}
use Rattle.matrices.proofs.Edges.{hold_sum, meets_same, even_word}
use Rattle.matrices.proofs.Generators.{frame_of_product}
use Rattle.matrices.proofs.RowTest.{rows_test, long_row, long_meets}
use Rattle.matrices.proofs.RowSame.{row_same}
use Rattle.matrices.proofs.Weights.{odd_test, columns_odd}

-- ---- the computed tests
-- no block more: every bit is sent
abbrev none : List Circ → List ℕ → ℕ → List (List ℕ)
none ks ws c = []

abbrev rows_of : ℕ → Bool
rows_of code = rows_test code none

abbrev odds_of : ℕ → Bool
odds_of code = let ks = circs code in below (bit_blocks code) (odd_test ks)

rows_hold : T (below tc_codes rows_of)
unfolding rows tables prototypes generators circs flat_map block_circs circs_at span blocks_of last_rows row_blocks cell_blocks block_of
rows_hold = tt

odds_hold : T (below tc_codes odds_of)
unfolding rows tables prototypes circs flat_map block_circs circs_at span blocks_of last_rows row_blocks cell_blocks block_of
odds_hold = tt

-- ---- the theorems
module _ (code : ℕ) (tc : TC code) where
  abbrev known : Known code
  known = omega arith

  -- every row of G meets every equation
  pub generator_meets : (i : ℕ) → i < (row_of code).k → Meets code (g_entry code i)
  generator_meets i h =
      meets_same code known (long_row code known none i) (g_entry code i)
      (λ v l. ap (λ (x : ℕ). x % 2) (row_same code known none i v (omega (arith, tc_sent code tc)))) (long_meets code known none (below_at tc_codes rows_of rows_hold code tc) i h)

  -- every frame meets every equation
  pub frame_meets : (d : ℕ → ℕ) → Meets code (frame_of code d)
  frame_meets d =
      hold_sum (edges code) (checks_in code) (row_of code).k d (g_entry code) (frame_of code d) generator_meets (frame_of_product code known d)

  -- every bit has an odd number of edges
  pub column_odd : (x : ℕ) → x < bits_in code → Odd (edges code) x
  column_odd x =
      of_edges code known (λ es m n k. x < n → Odd es x)
      (columns_odd (circulant_of code) (bit_blocks code) (circs code) (sizes code known).some (below_at tc_codes odds_of odds_hold code tc) x)

  -- a word that meets every equation has an even number of ones
  pub word_even : (w : ℕ → ℕ) → Meets code w → Even (sum_n (bits_in code) w)
  word_even w good = even_word (checks_in code) (bits_in code) (edges code) (edges_ranged code known) column_odd w good
