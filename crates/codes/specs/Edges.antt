-- The edges of a code, in the order of the walk. Assumes nothing.
use Rattle.std.specs.Prelude.{Bool, ℕ, ◌+◌, ◌*◌, ◌/◌, ◌%◌, ltb, get_or}
use mathlib.Core.List.{List, [], flat_map}
use Rattle.maths.specs.Tests.{pick, both}
use Rattle.maths.specs.Lists.{span}
use Rattle.codes.specs.declared.parity_iter.Place.{Place}
use Rattle.codes.specs.declared.parity_iter.Block.{Block}
use Rattle.codes.specs.declared.parity_iter.Block.TheVariants.{Ends, Empty, Identity, Permutation}
use Rattle.codes.specs.Codes.{known, Matrix, matrix_of}
use Rattle.codes.specs.Blocks.{block_at, blocks}

-- an edge: the number of a check and the number of a bit
pub record Edge : Type 0 where
  pub check : ℕ
  pub bit : ℕ

abbrev pub edge : ℕ → ℕ → Edge
edge a v = record { check = a; bit = v }

-- the edge is between one of m checks and one of n bits
abbrev pub in_range : ℕ → ℕ → Edge → Bool
in_range m n e = both (ltb e.check m) (ltb e.bit n)

-- "Identity block: column (i + value) mod M."
abbrev pub identity_column : ℕ → ℕ → ℕ → ℕ
identity_column m v i = (i + v) % m

-- "Permutation block, with q = M/4 and j = i div q: column q × ((theta[value] + j) mod 4) + (phi[j][value] + i) mod q."
abbrev pub permutation_column : Matrix → ℕ → ℕ → ℕ
permutation_column x v i =
    let q = x.size / 4 in
    q * ((get_or x.theta v 0 + i / q) % 4) + (get_or (get_or x.phi (i / q) []) v 0 + i) % q

-- the column of row i in a block
abbrev pub column_of : Matrix → Block → ℕ → ℕ
column_of x Ends i = 0
column_of x Empty i = 0
column_of x (Identity v) i = identity_column x.size v i
column_of x (Permutation v) i = permutation_column x v i

-- "Add row × M and column × M": the edge of row i of the block at p
unfoldable pub edge_at : Matrix → Place → ℕ → Edge
edge_at x p i = edge (p.row * x.size + i) (p.col * x.size + column_of x (block_at x.prototype p) i)

-- "then row i of the block, 0 to M-1"
unfoldable pub block_edges : Matrix → Place → List Edge
block_edges x p = span (edge_at x p) 0 x.size

-- the blocks of a code; none where it is not known
unfoldable pub blocks_of : ℕ → List Place
blocks_of code = pick (known code) (blocks (matrix_of code).prototype) []

-- all edges of a code
unfoldable pub edges : ℕ → List Edge
edges code = flat_map (block_edges (matrix_of code)) (blocks_of code)
