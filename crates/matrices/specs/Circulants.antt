-- A matrix as b by b circulants. Assumes nothing.
use mathlib.Core.List.{List, [], flat_map}
use Rattle.std.specs.Prelude.{ℕ, ◌+◌, ◌*◌, ◌/◌, ◌%◌, get_or}
use Rattle.maths.specs.Lists.{span}
use Rattle.codes.specs.declared.parity_iter.Place.{Place}
use Rattle.codes.specs.declared.parity_iter.Block.{Block}
use Rattle.codes.specs.declared.parity_iter.Block.TheVariants.{Ends, Empty, Identity, Permutation}
use Rattle.codes.specs.Codes.{Matrix, circulant_of, matrix_of}
use Rattle.codes.specs.Blocks.{block_at}
use Rattle.codes.specs.Edges.{Edge, edge, blocks_of}

-- a circulant: its row and its column, counted in blocks of b, and by how much the identity is turned right
pub record Circ : Type 0 where
  pub row : ℕ
  pub col : ℕ
  pub turn : ℕ

abbrev pub circ : ℕ → ℕ → ℕ → Circ
circ a q s = record { row = a; col = q; turn = s }

-- the bit of row t of a circulant
abbrev pub spot : ℕ → ℕ → Circ → ℕ
spot b t k = k.col * b + (k.turn + t) % b

unfoldable pub ring : ℕ → Circ → List Edge
ring b k = span (λ t. edge (k.row * b + t) (spot b t k)) 0 b

unfoldable pub edges_of : ℕ → List Circ → List Edge
edges_of b ks = flat_map (ring b) ks

-- the circulants of a block: s in a row and column of it, where its size is s times b
unfoldable pub circs_at : Matrix → ℕ → Block → ℕ → ℕ → List Circ
circs_at x b Ends r c = []
circs_at x b Empty r c = []
circs_at x b (Identity v) r c = let s = x.size / b in span (λ j. circ (r * s + j) (c * s + j) v) 0 s
circs_at x b (Permutation v) r c =
    let s = x.size / b in
    span (λ j. circ (r * s + j) (c * s + (get_or x.theta v 0 + j) % 4) (get_or (get_or x.phi j []) v 0)) 0 s

unfoldable pub block_circs : Matrix → ℕ → Place → List Circ
block_circs x b p = circs_at x b (block_at x.prototype p) p.row p.col

-- all circulants of a code, in the order of the walk
unfoldable pub circs : ℕ → List Circ
circs code = flat_map (block_circs (matrix_of code) (circulant_of code)) (blocks_of code)
