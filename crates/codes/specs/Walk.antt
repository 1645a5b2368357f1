-- A walk over the edges of a code, held by value. It stands at an edge; where its numbers are no edge's, it is finished. Assumes nothing.
use Rattle.std.specs.Prelude.{◌≡◌, Bool, true, false, not, ℕ, ◌+◌, ◌-◌, ◌*◌, ◌<◌, ltb, Option, Some, None, option_map, Result, Ok, Err}
use mathlib.Core.List.{List, [], ◌∷◌, ◌++◌, flat_map}
use Rattle.maths.specs.Tests.{pick, both}
use Rattle.maths.specs.Lists.{span}
use Rattle.codes.specs.declared.refusal.Refusal.{Refusal}
use Rattle.codes.specs.declared.refusal.Refusal.TheVariants.{UnknownCode}
use Rattle.codes.specs.declared.parity_iter.Check.{Check}
use Rattle.codes.specs.declared.parity_iter.Bit.{Bit}
use Rattle.codes.specs.declared.parity_iter.Place.{Place}
use Rattle.codes.specs.declared.parity_iter.ParityIter.{ParityIter}
use Rattle.codes.specs.declared.parity_iter.Block.{Block}
use Rattle.codes.specs.declared.parity_iter.Block.TheVariants.{Ends, Empty, Identity, Permutation}
use Rattle.codes.specs.Answers.{test, first_of, number}
use Rattle.codes.specs.Codes.{known, Known, Matrix, matrix_of}
use Rattle.codes.specs.Blocks.{place, block_at, blocks_from, head_of}
use Rattle.codes.specs.Edges.{Edge, edge, column_of, edge_at, block_edges, blocks_of}

abbrev pub matrix : ParityIter → Matrix
matrix w = matrix_of w.code

-- the block that a walk stands in, and the blocks after it
abbrev pub place_of : ParityIter → Place
place_of w = place w.row w.col w.layer

abbrev pub later : ParityIter → List Place
later w = blocks_from (matrix w).prototype w.row w.col (w.layer + 1)

abbrev pub solid : Block → Bool
solid Ends = false
solid Empty = false
solid (Identity v) = true
solid (Permutation v) = true

-- the walk stands at an edge of its code: "one whose numbers fit no place of its code answers finished"
abbrev pub stands : ParityIter → Bool
stands w =
    both (known w.code)
    (both (ltb w.row 4)
    (both (ltb w.col 11)
    (both (ltb w.layer 3)
    (both (ltb w.i (matrix w).size) (solid (block_at (matrix w).prototype (place_of w)))))))

-- the walk's numbers are within the bounds of its code
pub record Inside (w : ParityIter) : Type 0 where
  pub code_low : Known w.code
  pub row_low : w.row < 4
  pub col_low : w.col < 11
  pub layer_low : w.layer < 3
  pub i_low : w.i < (matrix w).size

-- the edges that a walk has left
unfoldable pub remaining : ParityIter → List Edge
remaining w =
    pick (stands w) (span (edge_at (matrix w) (place_of w)) w.i ((matrix w).size - w.i) ++ flat_map (block_edges (matrix w)) (later w)) []

-- the walk at the first row of a block, or the finished walk
abbrev pub start_at : ℕ → Option Place → ParityIter
start_at code (Some p) = record { code = code; row = p.row; col = p.col; layer = p.layer; i = 0 }
start_at code None = record { code = code; row = 4; col = 0; layer = 0; i = 0 }

unfoldable pub new_of : ℕ → ParityIter
new_of code = start_at code (head_of (blocks_of code))

abbrev pub walk_at : ℕ → Result ParityIter Refusal
walk_at code = pick (known code) (Ok (new_of code)) (Err UnknownCode)

-- an answer in numbers, and the walk
pub record Begun : Type 0 where
  pub answer : ℕ
  pub walk : ParityIter

-- what a call for a code's walk says; of a refused one the walk is the code's by `new`, a finished one
abbrev pub begun_by : ℕ → Result ParityIter Refusal → Begun
begun_by code (Ok w) = record { answer = 0; walk = w }
begun_by code (Err why) = record { answer = number why; walk = start_at code None }

-- the answer to asking for a code's walk: "its walk is 1 and finished" where the code is not known
abbrev pub begun_of : ℕ → Begun
begun_of code = record { answer = first_of (test (not (known code)) 1 ∷ []); walk = new_of code }

-- the walk after the edge at which a walk stands
unfoldable pub next_of : ParityIter → ParityIter
next_of w =
    pick (ltb (w.i + 1) (matrix w).size)
    (record { code = w.code; row = w.row; col = w.col; layer = w.layer; i = w.i + 1 })
    (start_at w.code (head_of (later w)))

-- the size of its blocks and the column of the edge at which a walk stands, or that it stands at none
unfoldable pub column_at : ParityIter → Option (ℕ × ℕ)
column_at w =
    pick (stands w) (Some ((matrix w).size, column_of (matrix w) (block_at (matrix w).prototype (place_of w)) w.i)) None

-- the edge of a walk that stands in column x of its block
abbrev pub edge_in : ParityIter → ℕ → Check × Bit
edge_in w x = (record { 0 = w.row * (matrix w).size + w.i }, record { 0 = w.col * (matrix w).size + x })

-- one step of a walk: the edge at which it stands, or that it stands at none, and the walk afterwards, which stays where it is finished
unfoldable pub step_of : ParityIter → Option (Check × Bit)
step_of w =
    pick (stands w) (Some (edge_in w (column_of (matrix w) (block_at (matrix w).prototype (place_of w)) w.i))) None

unfoldable pub moved : ParityIter → ParityIter
moved w = pick (stands w) (next_of w) w

-- what a step says of the edges: an edge and those that the next walk has left, or none
abbrev pub after : Option (Check × Bit) → ParityIter → List Edge
after (Some e) w = edge e.0.0 e.1.0 ∷ remaining w
after None w = []

-- a step by value: "each step takes the walk and hands the next walk back", with the edge, or answers that it is finished
abbrev pub handed : ParityIter → Option ((Check × Bit) × ParityIter)
handed w = option_map (λ e. (e, moved w)) (step_of w)

abbrev pub after_step : Option ((Check × Bit) × ParityIter) → List Edge
after_step (Some s) = edge s.0.0.0 s.0.1.0 ∷ remaining s.1
after_step None = []

-- a call of `next`: what it answers, the walk that it leaves, and that the edges are those that were left
pub record Steps (w : ParityIter) (r : Option (Check × Bit)) (w' : ParityIter) : Type 0 where
  pub answers : r ≡ step_of w
  pub moves : w' ≡ moved w
  pub leaves : after r w' ≡ remaining w
