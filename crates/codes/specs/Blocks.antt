-- The blocks of a prototype, in the order of the walk. Assumes nothing.
use Rattle.std.specs.Prelude.{List, [], ◌∷◌, ◌++◌, ℕ, zero, suc, ◌+◌, ◌-◌, ◌%◌, ltb, eqb, get_or, Option, Some, None}
use Rattle.maths.specs.Tests.{pick, both}
use Rattle.codes.specs.declared.parity_iter.Place.{Place}
use Rattle.codes.specs.declared.parity_iter.Block.{Block}
use Rattle.codes.specs.declared.parity_iter.Block.TheVariants.{Ends, Empty, Identity, Permutation}

-- the byte at a layer, row and column of a prototype
abbrev pub byte_at : List (List (List ℕ)) → ℕ → ℕ → ℕ → ℕ
byte_at H l r c = get_or (get_or (get_or H l []) r []) c 0

-- "the byte's range decides: 0 to 63, 64 to 127, 128 to 191, 192 to 255"; the value is its low six bits.
-- Only the byte 0 ends a cell's layers: the others of the first range and those of the last give no edge
unfoldable pub block_of : ℕ → Block
block_of b =
    pick (ltb b 64) (pick (eqb b 0) Ends Empty)
    (pick (ltb b 128) (Identity (b % 64)) (pick (ltb b 192) (Permutation (b % 64)) Empty))

abbrev pub place : ℕ → ℕ → ℕ → Place
place r c l = record { row = r; col = c; layer = l }

-- what a layer of a block at the place p puts before the blocks ps of the layers after it
abbrev pub layered : Block → Place → List Place → List Place
layered Ends p ps = []
layered Empty p ps = ps
layered (Identity v) p ps = p ∷ ps
layered (Permutation v) p ps = p ∷ ps

-- "Order: prototype row 0 to 3, column 0 to 10, layer 0 to 2": the blocks of the last k layers of a cell,
module _ (H : List (List (List ℕ))) where
  unfoldable pub cell_blocks : ℕ → ℕ → ℕ → List Place
  cell_blocks r c zero = []
  cell_blocks r c (suc k) = layered (block_of (byte_at H (2 - k) r c)) (place r c (2 - k)) (cell_blocks r c k)

  -- of the last k cells of a row,
  unfoldable pub row_blocks : ℕ → ℕ → List Place
  row_blocks r zero = []
  row_blocks r (suc k) = cell_blocks r (10 - k) 3 ++ row_blocks r k

  -- of the last k rows,
  unfoldable pub last_rows : ℕ → List Place
  last_rows zero = []
  last_rows (suc k) = row_blocks (3 - k) 11 ++ last_rows k

  -- and all
  abbrev pub blocks : List Place
  blocks = last_rows 4

  -- the blocks from a cell on
  unfoldable pub cells_from : ℕ → ℕ → List Place
  cells_from r c = row_blocks r (11 - c) ++ last_rows (3 - r)

  -- the blocks from a layer of a cell on
  unfoldable pub blocks_from : ℕ → ℕ → ℕ → List Place
  blocks_from r c l = cell_blocks r c (3 - l) ++ cells_from r (c + 1)

  -- the blocks from a found one on
  abbrev pub rest_of : Option Place → List Place
  rest_of (Some p) = p ∷ blocks_from p.row p.col (p.layer + 1)
  rest_of None = []

  abbrev pub block_at : Place → Block
  block_at p = block_of (byte_at H p.layer p.row p.col)

-- the first of a list of blocks
abbrev pub head_of : List Place → Option Place
head_of [] = None
head_of (p ∷ ps) = Some p

-- the next block after a place of a prototype; none where it is no place
abbrev pub next_block : List (List (List ℕ)) → Place → Option Place
next_block H p = pick (both (ltb p.row 4) (both (ltb p.col 11) (ltb p.layer 3))) (head_of (blocks_from H p.row p.col (p.layer + 1))) None
