-- The votes of checks for their erased bits, and the bits by their votes, in bytes. An erased bit's byte is 2. Assumes nothing.
use Rattle.std.specs.Prelude.{ℕ, ◌+◌, ◌*◌, ◌/◌, ◌%◌, min, List, map, ◌==◌, nat_lt}
use Rattle.maths.specs.Tests.{pick, both}
use Rattle.maths.specs.Lists.{fold}
use Rattle.codes.specs.Edges.{Edge}
use Rattle.codes.specs.Equations.{check_of, bit_of, word_of}
use Rattle.runs.specs.Meets.{syndrome_of}
use Rattle.runs.specs.Steps.{put}

-- the erased bits of a check, whose byte is its parity and twice their number, at most 4
abbrev pub add_erased : ℕ → ℕ → ℕ
add_erased x y = min 4 ((x + y / 2 * 2) % 256)

abbrev pub count_erased : (ℕ → ℕ) → Edge → List ℕ → List ℕ
count_erased w = put check_of bit_of add_erased w

-- what a check gives: 2 for odd parity, -2 for even, where it has one erased bit
unfoldable pub vote_byte : ℕ → ℕ
vote_byte x = pick (x == 3) 2 (pick (x == 2) 254 0)

-- the bytes of m checks after a parity, a count of erased bits and a vote
unfoldable pub cast_votes : List Edge → ℕ → List ℕ → List ℕ
cast_votes es m b = map vote_byte (fold (count_erased (word_of b)) es (syndrome_of es m (word_of b)))

-- a bit as it was, or an erased bit (2) by four times the votes it has
unfoldable pub settle_byte : ℕ → ℕ
settle_byte x = pick (nat_lt (x % 4) 2) (x % 2) (pick (both (nat_lt 0 (x / 4)) (nat_lt (x / 4) 32)) 1 0)
