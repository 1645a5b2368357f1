-- The edges of a code as runs, in the order of the walk. Assumes nothing.
use Rattle.std.specs.Prelude.{ℕ, zero, suc, ◌+◌, ◌-◌, ◌*◌, ◌/◌, ◌%◌, Bool, List, [], ◌∷◌, ◌++◌, ◌==◌, nat_le, slice_index, slice_index_or}
use mathlib.Core.List.{flat_map}
use Rattle.maths.specs.Tests.{pick, both}
use Rattle.maths.specs.Lists.{span, keep}
use Rattle.codes.specs.declared.parity_iter.Place.{Place}
use Rattle.codes.specs.declared.parity_iter.Block.{Block}
use Rattle.codes.specs.declared.parity_iter.Block.TheVariants.{Ends, Empty, Identity, Permutation}
use Rattle.runs.specs.declared.EdgeRun.{EdgeRun}
use Rattle.runs.specs.declared.Matrix.{Matrix as MatrixParts}
use Rattle.codes.specs.Codes.{Matrix, made, matrix_of}
use Rattle.codes.specs.Blocks.{block_at}
use Rattle.codes.specs.Edges.{Edge, edge, blocks_of}

-- a run from check a and bit v on, of l edges
abbrev pub run : ℕ → ℕ → ℕ → EdgeRun
run a v l = record { check = record { 0 = a }; bit = record { 0 = v }; size = l }

-- the edges (check + i, bit + i), of which there are size
unfoldable pub run_edges : EdgeRun → List Edge
run_edges r = span (λ i. edge (r.check.0 + i) (r.bit.0 + i)) 0 r.size

-- the run lies within m checks and n bits
abbrev pub within : ℕ → ℕ → EdgeRun → Bool
within m n r = both (nat_le (r.check.0 + r.size) m) (nat_le (r.bit.0 + r.size) n)

-- its bits in the place of its checks, and its checks in that of its bits
abbrev pub turned : EdgeRun → EdgeRun
turned r = run r.bit.0 r.check.0 r.size

-- size edges from check a on, whose bits are v, .., v + size - 1 turned by turn
unfoldable pub turned_runs : ℕ → ℕ → ℕ → ℕ → List EdgeRun
turned_runs a v turn size =
    pick (turn == 0) (run a v size ∷ []) (run a (v + turn) (size - turn) ∷ run (a + (size - turn)) v turn ∷ [])

-- quarter j of a permutation block of the size m, whose first check is a and first bit v, and the first j quarters
unfoldable pub quarter : ℕ → List ℕ → List (List ℕ) → ℕ → ℕ → ℕ → ℕ → List EdgeRun
quarter m theta phi value a v j =
    turned_runs (a + j * (m / 4)) (v + (slice_index theta value + j) % 4 * (m / 4)) (slice_index (slice_index_or phi j []) value % (m / 4)) (m / 4)

unfoldable pub quarters : ℕ → List ℕ → List (List ℕ) → ℕ → ℕ → ℕ → ℕ → List EdgeRun
quarters m theta phi value a v zero = []
quarters m theta phi value a v (suc j) = quarters m theta phi value a v j ++ quarter m theta phi value a v j

-- the runs of a block whose first check is a and first bit v
abbrev pub runs_at : ℕ → List ℕ → List (List ℕ) → Block → ℕ → ℕ → List EdgeRun
runs_at m theta phi Ends a v = []
runs_at m theta phi Empty a v = []
runs_at m theta phi (Identity value) a v = turned_runs a v (value % m) m
runs_at m theta phi (Permutation value) a v = quarters m theta phi value a v 4

unfoldable pub block_runs : Matrix → Place → List EdgeRun
block_runs x p = runs_at x.size x.theta x.phi (block_at x.prototype p) (p.row * x.size) (p.col * x.size)

unfoldable pub runs : ℕ → List EdgeRun
runs code = flat_map (block_runs (matrix_of code)) (blocks_of code)

-- what a matrix is made of, as the functions lend it
abbrev pub made_of : MatrixParts → Matrix
made_of x = made x.size x.theta.now x.phi.now x.prototype.now

-- room for the runs of any code
abbrev pub room : ℕ
room = 264

-- the edges of those runs of a list that lie within m checks and n bits
unfoldable pub laid : ℕ → ℕ → List EdgeRun → List Edge
laid m n rs = flat_map run_edges (keep (within m n) rs)
