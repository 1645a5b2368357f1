-- The terms that a prototype's bytes stand for. Assumes nothing.
use Rattle.std.specs.Prelude.{List, ℕ, ◌+◌}
use Rattle.codes.specs.declared.parity_iter.Block.{Block}
use Rattle.codes.specs.declared.parity_iter.Block.TheVariants.{Ends, Empty, Identity, Permutation}
use Rattle.codes.specs.Blocks.{byte_at, block_of}
use Rattle.matrices.specs.Ccsds.{Cell, O, Φ, Π, ◌⊕◌}

-- what a layer puts before the terms of the layers after it: byte 0 ends them, 64 + n is Φ n, 128 + n is Π (n + 1), others are no term
abbrev pub with_layer : Block → Cell → Cell
with_layer Ends ts = O
with_layer Empty ts = ts
with_layer (Identity n) ts = Φ n ⊕ ts
with_layer (Permutation n) ts = Π (n + 1) ⊕ ts

-- the terms of a cell, by its three layers
unfoldable pub read : List (List (List ℕ)) → ℕ → ℕ → Cell
read H r c =
    with_layer (block_of (byte_at H 0 r c)) (with_layer (block_of (byte_at H 1 r c)) (with_layer (block_of (byte_at H 2 r c)) O))
