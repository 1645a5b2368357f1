-- The computed test of the TC codes that min-sum needs. Assumes nothing.
use mathlib.Core.Bool.{Bool}
use mathlib.Core.List.{flat_map}
use Prim.Native.Nat.{ℕ}
use lib.Dec.{T, leb}
use lib.ListN.{length}
use Rattle.maths.specs.Tests.{below}
use Rattle.maths.specs.Lists.{span}
use Rattle.tables.specs.Tables.{prototypes}
use Rattle.codes.specs.Codes.{tc_codes, rows, tables}
use Rattle.codes.specs.Blocks.{block_of, cell_blocks, row_blocks, last_rows}
use Rattle.codes.specs.Edges.{blocks_of}
use Rattle.matrices.specs.Circulants.{circs, circs_at, block_circs}
use Rattle.matrices.proofs.Sizes.{check_blocks}
use Rattle.matrices.proofs.Rows.{in_row}

-- ---- every check has two edges at least
unfoldable pub rows_test : ℕ → Bool
rows_test code = let ks = circs code in below (check_blocks code) (λ a. leb 2 (length (in_row ks a)))

pub rows_hold : T (below tc_codes rows_test)
unfolding rows_test rows tables prototypes circs flat_map block_circs circs_at span blocks_of last_rows row_blocks cell_blocks block_of
rows_hold = tt
