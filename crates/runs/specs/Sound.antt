-- What the functions that list the runs ask of a matrix and of its blocks. Assumes nothing.
use mathlib.Core.List.{flat_map}
use Rattle.std.specs.Prelude.{ℕ, ◌+◌, ◌*◌, ◌<◌, ◌≤◌, length}
use Rattle.codes.specs.declared.parity_iter.Place.{Place}
use Rattle.codes.specs.declared.parity_iter.Block.{Block}
use Rattle.codes.specs.Codes.{Matrix}
use Rattle.codes.specs.Blocks.{byte_at, block_of, block_at, blocks}
use Rattle.codes.specs.Sound.{BlockSize, Small}
use Rattle.runs.specs.Runs.{room, block_runs}

-- the runs of a turned identity fit after t others
pub record TurnFits (t a v turn size : ℕ) : Type 0 where
  pub free : t + 2 ≤ room
  pub turn_low : turn < size
  pub check_low : a + size < 65536
  pub bit_low : v + size < 65536

-- those of quarter j of a permutation do
pub record QuarterFits (t a v m value j : ℕ) : Type 0 where
  pub sized : BlockSize m
  pub free : t + 2 ≤ room
  pub check_low : a + m < 65536
  pub bit_low : v + m < 65536
  pub value_low : value < 26
  pub j_low : j < 4

-- those of a block do
pub record BlockFits (t a v m : ℕ) (k : Block) : Type 0 where
  pub sized : BlockSize m
  pub free : t + 8 ≤ room
  pub check_low : a + m < 65536
  pub bit_low : v + m < 65536
  pub small : Small k

-- those of the block at a place of a matrix do
pub record PlaceFits (x : Matrix) (t : ℕ) (p : Place) : Type 0 where
  pub row_low : p.row < 4
  pub col_low : p.col < 11
  pub layer_low : p.layer < 3
  pub fits : BlockFits t (p.row * x.size) (p.col * x.size) x.size (block_at x.prototype p)

-- those of all blocks of a matrix do, which are of the kinds that the tables serve
pub record RunsFit (x : Matrix) : Type 0 where
  pub sized : BlockSize x.size
  pub small : (l r c : ℕ) → Small (block_of (byte_at x.prototype l r c))
  pub few : length (flat_map (block_runs x) (blocks x.prototype)) + 8 ≤ room
