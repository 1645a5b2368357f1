-- The numbers by which the library answers. Assumes nothing.
use Rattle.std.specs.Prelude.{Bool, not, List, [], ◌∷◌, ℕ, ◌≤◌, eqb, ltb, Result, Ok, Err, ⊤}
use Rattle.codes.specs.declared.refusal.Refusal.{Refusal}
use Rattle.codes.specs.declared.refusal.Refusal.TheVariants.{UnknownCode, WrongRead, WrongWritten, WrongWorking, WrongSigns, LimitTooLarge}
use Rattle.maths.specs.Tests.{pick}

-- a test that a call can fail, and the number that it is then refused by
pub record Test : Type 0 where
  pub fails : Bool
  pub number : ℕ

abbrev pub test : Bool → ℕ → Test
test b n = record { fails = b; number = n }

-- "Tests run in the order 1 to 5; the first that applies is the answer." 0 where none applies
abbrev pub first_of : List Test → ℕ
first_of [] = 0
first_of (t ∷ ts) = pick t.fails t.number (first_of ts)

-- the number of each test
abbrev pub number : Refusal → ℕ
number UnknownCode = 1
number WrongRead = 2
number WrongWritten = 3
number WrongWorking = 4
number WrongSigns = 5
number LimitTooLarge = 6

-- the number by which a call answers
abbrev pub answer_of : {A : Type 0} → Result A Refusal → ℕ
answer_of (Ok x) = 0
answer_of (Err why) = number why

-- one test of a call: it goes on, or is refused
abbrev pub checked : Bool → Refusal → Result ⊤ Refusal
checked fails why = pick fails (Err why) (Ok tt)

-- a length that is not the one asked for
abbrev pub unlike : ℕ → ℕ → Bool
unlike have want = not (eqb have want)

-- Request T-05, ahead of its landing: "refuse a limit above 4,096 with a new number 6". The most iterations that a decoder may be asked for then,
-- a limit up to it, and one above it
abbrev pub max_iters : ℕ
max_iters = 4096

abbrev pub Allowed : ℕ → Type 0
Allowed limit = limit ≤ max_iters

abbrev pub too_many : ℕ → Bool
too_many limit = ltb max_iters limit
