-- The searches of the TM codes, computed over their reduced matrices. Assumes nothing.
use mathlib.Core.Bool.{Bool}
use mathlib.Core.List.{List, flat_map}
use Prim.Native.Nat.{ℕ, ◌+◌}
use lib.Dec.{T}
use Rattle.maths.specs.Tests.{below}
use Rattle.maths.specs.Lists.{span}
use Rattle.tables.specs.Tables.{prototypes, thetas, phis}
use Rattle.codes.specs.Codes.{tc_codes, rows, tables, circulant_of}
use Rattle.codes.specs.Blocks.{block_of, cell_blocks, row_blocks, last_rows}
use Rattle.codes.specs.Edges.{blocks_of}
use Rattle.codes.proofs.Codes.{tm_codes}
use Rattle.matrices.specs.Circulants.{Circ, circs, circs_at, block_circs}
use Rattle.matrices.proofs.Sizes.{bit_blocks}
use Rattle.low_weights.proofs.FewOnes.{none_in}
use Rattle.telemetry.proofs.Sizes.{sent_blocks, third_block}
use Rattle.tm_distance.proofs.Reduced.{reduced}

abbrev pub reduced_of : ℕ → List Circ
reduced_of code = let ks = circs code in reduced (circulant_of code) (sent_blocks code) (bit_blocks code) (third_block code) ks

-- no word of the reduced equations has a one and two more at most; a column has at most eight circulants beyond one in a row
abbrev pub none_sent : ℕ → Bool
none_sent code = let js = reduced_of code in none_in (circulant_of code) (third_block code) (sent_blocks code) js 8 2

pub none_hold : T (below tm_codes (λ c. none_sent (tc_codes + c)))
unfolding rows tables prototypes thetas phis circs flat_map block_circs circs_at span blocks_of last_rows row_blocks cell_blocks block_of
none_hold = tt
