-- What a loop over runs does to a list, run by run and edge by edge, for the functions inside. Assumes nothing.
use Rattle.std.specs.Prelude.{ℕ, ◌+◌, ◌%◌, List, slice_index, slice_set}
use Rattle.maths.specs.Tests.{pick}
use Rattle.maths.specs.Lists.{fold}
use Rattle.codes.specs.Edges.{Edge}
use Rattle.runs.specs.declared.EdgeRun.{EdgeRun}
use Rattle.runs.specs.Runs.{run_edges, within}
use Rattle.codes.specs.Equations.{check_of, bit_of}

-- what stands at an edge's near end becomes f of that and of g at its far end
unfoldable pub put : (Edge → ℕ) → (Edge → ℕ) → (ℕ → ℕ → ℕ) → (ℕ → ℕ) → Edge → List ℕ → List ℕ
put near far f g e acc = slice_set acc (near e) (f (slice_index acc (near e)) (g (far e)))

-- the edges of a run in turn, where it lies within m checks and n bits
unfoldable pub over_run : {S : Type 0} → ℕ → ℕ → (Edge → S → S) → EdgeRun → S → S
over_run m n step r s = pick (within m n r) (fold step (run_edges r) s) s

-- a sum modulo 2
abbrev pub add2 : ℕ → ℕ → ℕ
add2 x y = (x + y) % 2

-- the bit of each edge is added to its check, modulo 2
abbrev pub add_bit : (ℕ → ℕ) → Edge → List ℕ → List ℕ
add_bit w = put check_of bit_of add2 w
