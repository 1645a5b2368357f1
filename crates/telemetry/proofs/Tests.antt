-- "whether each generator row can be completed to meet all equations": the computed test of the TM codes, over the first row of each block of rows,
-- from which the others are turned. Assumes nothing.
use mathlib.Core.Bool.{Bool}
use mathlib.Core.List.{List, map, flat_map}
use Prim.Native.Nat.{ℕ, ◌+◌}
use lib.Dec.{T}
use Rattle.maths.specs.Tests.{below}
use Rattle.maths.specs.Lists.{span}
use Rattle.tables.specs.Tables.{prototypes, thetas, phis}
use Rattle.tables.specs.Words.{generators}
use Rattle.codes.specs.Codes.{tc_codes, rows, tables, circulant_of}
use Rattle.codes.specs.Blocks.{block_of, cell_blocks, row_blocks, last_rows}
use Rattle.codes.specs.Edges.{blocks_of}
use Rattle.codes.proofs.Codes.{tm_codes}
use Rattle.matrices.specs.Circulants.{Circ, circs, circs_at, block_circs}
use Rattle.matrices.proofs.Sizes.{data_blocks}
use Rattle.matrices.proofs.Rows.{in_row}
use Rattle.matrices.proofs.RowTest.{one_l, row_list, generator_blocks, rows_test}
use Rattle.telemetry.proofs.Sizes.{third_block, punctured_blocks}

-- the rows of circulants that the punctured bits are set by
abbrev lone_rows : ℕ → List Circ → List (List Circ)
lone_rows code ks = span (λ j. in_row ks (third_block code + j)) 0 (punctured_blocks code)

-- what completes row c of the generator: a block for each of them, to which its other circulants add up
abbrev pub filling : ℕ → List Circ → List ℕ → ℕ → List (List ℕ)
filling code ks ws =
    let lones = lone_rows code ks in
    let one = one_l (circulant_of code) in
    λ c. map (row_list (circulant_of code) (data_blocks code) c (generator_blocks code ws c) one) lones

abbrev pub rows_complete : ℕ → Bool
rows_complete code = rows_test code (filling code)

pub complete_all : T (below tm_codes (λ c. rows_complete (tc_codes + c)))
unfolding rows tables prototypes thetas phis generators circs flat_map block_circs circs_at span blocks_of last_rows row_blocks cell_blocks block_of
complete_all = tt
