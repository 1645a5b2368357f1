-- The parity check matrices as CCSDS 231.0-B, 231.1-O and 131.0-B write them: blocks of M by M, each a sum of terms. Assumes nothing.
use mathlib.Core.List.{List, [], ◌∷◌, ◌++◌, zip_with}
use Rattle.std.specs.Prelude.{ℕ, ◌+◌, ◌-◌, ◌*◌, ◌/◌, ◌%◌, eqb, get_or}
use Rattle.maths.specs.Tally.{tally}
use Rattle.tables.specs.Tables.{thetas}
use Rattle.codes.specs.Codes.{phi_of}

-- a term of a block: the identity turned right by a number of columns, or the permutation with a number
pub data Term : Type 0 where
  identity : ℕ → Term
  permuted : ℕ → Term

-- a block: the sum of its terms modulo 2
abbrev pub Cell : Type 0
Cell = List Term

-- the zero block
abbrev pub O : Cell
O = []

-- the identity turned right by s columns, Φ^s
abbrev pub Φ : ℕ → Cell
Φ s = identity s ∷ []

-- the identity
abbrev pub I : Cell
I = Φ 0

-- the permutation matrix Π_k, k from 1
abbrev pub Π : ℕ → Cell
Π k = permuted k ∷ []

infixl 68 ◌⊕◌
-- the sum modulo 2 of two blocks
abbrev pub ◌⊕◌ : Cell → Cell → Cell
s ⊕ t = s ++ t

-- 231.0-B, n = 128, M = 16
unfoldable pub tc128 : List (List Cell)
tc128 =
    (I ⊕ Φ 7 ∷ Φ 2 ∷ Φ 14 ∷ Φ 6 ∷ O ∷ Φ 0 ∷ Φ 13 ∷ I ∷ []) ∷
    (Φ 6 ∷ I ⊕ Φ 15 ∷ Φ 0 ∷ Φ 1 ∷ I ∷ O ∷ Φ 0 ∷ Φ 7 ∷ []) ∷
    (Φ 4 ∷ Φ 1 ∷ I ⊕ Φ 15 ∷ Φ 14 ∷ Φ 11 ∷ I ∷ O ∷ Φ 3 ∷ []) ∷
    (Φ 0 ∷ Φ 1 ∷ Φ 9 ∷ I ⊕ Φ 13 ∷ Φ 14 ∷ Φ 1 ∷ I ∷ O ∷ []) ∷
    []

-- 231.1-O, n = 256, M = 32
unfoldable pub tc256 : List (List Cell)
tc256 =
    (I ⊕ Φ 31 ∷ Φ 15 ∷ Φ 25 ∷ Φ 0 ∷ O ∷ Φ 20 ∷ Φ 12 ∷ I ∷ []) ∷
    (Φ 28 ∷ I ⊕ Φ 30 ∷ Φ 29 ∷ Φ 24 ∷ I ∷ O ∷ Φ 1 ∷ Φ 20 ∷ []) ∷
    (Φ 8 ∷ Φ 0 ∷ I ⊕ Φ 28 ∷ Φ 1 ∷ Φ 29 ∷ I ∷ O ∷ Φ 21 ∷ []) ∷
    (Φ 18 ∷ Φ 30 ∷ Φ 0 ∷ I ⊕ Φ 30 ∷ Φ 25 ∷ Φ 26 ∷ I ∷ O ∷ []) ∷
    []

-- 231.0-B, n = 512, M = 64
unfoldable pub tc512 : List (List Cell)
tc512 =
    (I ⊕ Φ 63 ∷ Φ 30 ∷ Φ 50 ∷ Φ 25 ∷ O ∷ Φ 43 ∷ Φ 62 ∷ I ∷ []) ∷
    (Φ 56 ∷ I ⊕ Φ 61 ∷ Φ 50 ∷ Φ 23 ∷ I ∷ O ∷ Φ 37 ∷ Φ 26 ∷ []) ∷
    (Φ 16 ∷ Φ 0 ∷ I ⊕ Φ 55 ∷ Φ 27 ∷ Φ 56 ∷ I ∷ O ∷ Φ 43 ∷ []) ∷
    (Φ 35 ∷ Φ 56 ∷ Φ 62 ∷ I ⊕ Φ 11 ∷ Φ 58 ∷ Φ 3 ∷ I ∷ O ∷ []) ∷
    []

-- 131.0-B, rate 1/2, for any M
unfoldable pub half : List (List Cell)
half =
    (O ∷ O ∷ I ∷ O ∷ I ⊕ Π 1 ∷ []) ∷
    (I ∷ I ∷ O ∷ I ∷ Π 2 ⊕ Π 3 ⊕ Π 4 ∷ []) ∷
    (I ∷ Π 5 ⊕ Π 6 ∷ O ∷ Π 7 ⊕ Π 8 ∷ I ∷ []) ∷
    []

-- block columns put in front of a matrix, row by row
unfoldable pub before : List (List Cell) → List (List Cell) → List (List Cell)
before = zip_with (λ new old. new ++ old)

-- rate 2/3: two block columns in front of rate 1/2
unfoldable pub two_thirds : List (List Cell)
two_thirds =
    before ((O ∷ O ∷ []) ∷ (Π 9 ⊕ Π 10 ⊕ Π 11 ∷ I ∷ []) ∷ (I ∷ Π 12 ⊕ Π 13 ⊕ Π 14 ∷ []) ∷ []) half

-- rate 3/4: two more in front of rate 2/3
unfoldable pub three_quarters : List (List Cell)
three_quarters =
    before ((O ∷ O ∷ []) ∷ (Π 15 ⊕ Π 16 ⊕ Π 17 ∷ I ∷ []) ∷ (I ∷ Π 18 ⊕ Π 19 ⊕ Π 20 ∷ []) ∷ []) two_thirds

-- rate 4/5: two more in front of rate 3/4
unfoldable pub four_fifths : List (List Cell)
four_fifths =
    before ((O ∷ O ∷ []) ∷ (Π 21 ⊕ Π 22 ⊕ Π 23 ∷ I ∷ []) ∷ (I ∷ Π 24 ⊕ Π 25 ⊕ Π 26 ∷ []) ∷ []) three_quarters

-- a matrix of the standards: M, and the rows of its blocks
pub record Standard : Type 0 where
  pub size : ℕ
  pub rows : List (List Cell)

-- the matrix of a size and rows
abbrev pub standard : ℕ → List (List Cell) → Standard
standard m h = record { size = m; rows = h }

-- the matrices by code: TC128, TC256, TC512, TM1280, TM1536, TM2048, TM5120, TM6144, TM8192
unfoldable pub standards : List Standard
standards =
    standard 16 tc128 ∷
    standard 32 tc256 ∷
    standard 64 tc512 ∷
    standard 128 four_fifths ∷
    standard 256 two_thirds ∷
    standard 512 half ∷
    standard 512 four_fifths ∷
    standard 1024 two_thirds ∷
    standard 2048 half ∷
    []

-- the matrix of a code; no rows where it is not known
abbrev pub standard_of : ℕ → Standard
standard_of code = get_or standards code (standard 0 [])

-- the block at a row and a column of blocks; O outside the matrix
abbrev pub cell_of : ℕ → ℕ → ℕ → Cell
cell_of code r c = get_or (get_or (standard_of code).rows r []) c O

-- θ_k
abbrev pub theta : ℕ → ℕ
theta k = get_or thetas (k - 1) 0

-- φ_k(j, M), by the code, which has one M
abbrev pub phi : ℕ → ℕ → ℕ → ℕ
phi code k j = get_or (get_or (phi_of code) j []) (k - 1) 0

-- π_k(i) = M/4 ((θ_k + ⌊4i/M⌋) mod 4) + (φ_k(⌊4i/M⌋, M) + i) mod M/4
abbrev pub permutation : ℕ → ℕ → ℕ → ℕ → ℕ
permutation code m k i =
    m / 4 * ((theta k + (4 * i) / m) % 4) + (phi code k ((4 * i) / m) + i) % (m / 4)

-- the column where row i of a term has its one
abbrev pub column : ℕ → ℕ → Term → ℕ → ℕ
column code m (identity s) i = (i + s) % m
column code m (permuted k) i = permutation code m k i

-- the number of a block's terms that have a one at (i, j)
abbrev pub ones : ℕ → ℕ → Cell → ℕ → ℕ → ℕ
ones code m cell i j = tally (λ t. eqb (column code m t i) j) cell

-- the entry at row a and column v of the whole matrix
unfoldable pub entry : ℕ → ℕ → ℕ → ℕ
entry code a v =
    let m = (standard_of code).size in
    ones code m (cell_of code (a / m) (v / m)) (a % m) (v % m) % 2
