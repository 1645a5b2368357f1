-- The library's tables are the matrices of the standards. Assumes nothing.
use mathlib.Core.Bool.{Bool}
use mathlib.Core.List.{List, [], zip_with}
use mathlib.Core.Path.{◌≡◌, refl}
use Prim.Native.Nat.{ℕ, ◌*◌, ◌<◌}
use lib.Dec.{T, eqb, eqb→eq}
use lib.ListN.{length, get_or}
use Rattle.maths.specs.Tests.{all, below}
use Rattle.maths.specs.Lists.{span}
use Rattle.maths.proofs.Tests.{below_at, below_eq, all_at}
use Rattle.maths.proofs.Lists.{table_same}
use Rattle.tables.specs.Tables.{prototypes}
use Rattle.codes.specs.Codes.{codes, Known, rows, tables, prototype_of, bits_in, checks_in}
use Rattle.codes.specs.Blocks.{block_of}
use Rattle.matrices.specs.Ccsds.{Cell, standards, standard_of, cell_of, tc128, tc256, tc512, half, before, two_thirds, three_quarters, four_fifths}
use Rattle.matrices.specs.Reading.{read}
use Rattle.matrices.proofs.Sizes.{size_of}

-- the bytes of a cell stand for the terms of the standard's
pub decoded : (code r c : ℕ) → Known code → r < 4 → c < 11 → read (prototype_of code) r c ≡ cell_of code r c
unfolding span prototypes tables read block_of standards tc128 tc256 tc512 half before zip_with two_thirds three_quarters four_fifths
decoded = table_same (λ code. read (prototype_of code)) cell_of codes 4 11 refl

-- blocks are as large as the standard says
pub size_same : (code : ℕ) → Known code → (standard_of code).size ≡ size_of code
unfolding standards rows
size_same code h = below_eq codes (λ k. (standard_of k).size) size_of tt code h

-- the rows of blocks make up the checks
pub rows_size : (code : ℕ) → Known code → length (standard_of code).rows * (standard_of code).size ≡ checks_in code
unfolding standards rows tc128 tc256 tc512 half before zip_with two_thirds three_quarters four_fifths
rows_size code h = below_eq codes (λ k. length (standard_of k).rows * (standard_of k).size) checks_in tt code h

-- and the blocks of each row the bits
wide : ℕ → List Cell → Bool
wide code row = eqb (length row * (standard_of code).size) (bits_in code)

all_wide : T (below codes (λ code. all (wide code) (standard_of code).rows))
unfolding wide standards rows tc128 tc256 tc512 half before zip_with two_thirds three_quarters four_fifths
all_wide = tt

pub cols_size : (code r : ℕ) → Known code → r < length (standard_of code).rows
    → length (get_or (standard_of code).rows r []) * (standard_of code).size ≡ bits_in code
unfolding wide
cols_size code r h l =
    let t = below_at codes (λ k. all (wide k) (standard_of k).rows) all_wide code h in
    eqb→eq (length (get_or (standard_of code).rows r []) * (standard_of code).size) (bits_in code)
    (all_at (wide code) [] (standard_of code).rows t r l)
