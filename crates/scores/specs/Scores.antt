-- What the checks give to the bits of their edges, and the flip by it, in bytes. A check's byte is 1 where it is broken; a bit's byte is the bit and twice what its checks give. Assumes nothing.
use Rattle.std.specs.Prelude.{ℕ, ◌+◌, ◌-◌, ◌*◌, ◌/◌, ◌%◌, List, ◌==◌}
use Rattle.maths.specs.Tests.{pick}
use Rattle.codes.specs.Edges.{Edge}
use Rattle.codes.specs.Equations.{check_of, bit_of}
use Rattle.runs.specs.Steps.{put}

-- twice what each check has, to the bits of its edges
abbrev pub twice : ℕ → ℕ → ℕ
twice x y = (x + 2 * y) % 256

abbrev pub give : (ℕ → ℕ) → Edge → List ℕ → List ℕ
give s = put bit_of check_of twice s

-- a byte that holds a bit and twice its score, flipped if the score is the top
unfoldable pub flip_byte : ℕ → ℕ → ℕ
flip_byte top x = pick (x / 2 == top) (1 - x % 2) (x % 2)
