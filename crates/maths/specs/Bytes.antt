-- Byte strings, and those made of bits. Assumes nothing.
use Rattle.std.specs.Prelude.{List, ℕ, ◌+◌, ◌-◌, ◌*◌, ◌%◌, ◌^◌, ◌<◌, length, get_or}
use Rattle.maths.specs.Lists.{span}
use Rattle.maths.specs.Sums.{sum_n}

-- every element is a byte
abbrev pub Bytes : List ℕ → Type 0
Bytes s = (i : ℕ) → i < length s → get_or s i 0 < 256

-- byte j of the bits f: the first of its eight is the highest
abbrev pub byte : (ℕ → ℕ) → ℕ → ℕ
byte f j = sum_n 8 (λ i. f (j * 8 + i) % 2 * 2 ^ (7 - i))

-- the first n bytes of the bits f: "Bit i of a byte string is bit 7-(i mod 8) of byte i div 8."
unfoldable pub pack : (ℕ → ℕ) → ℕ → List ℕ
pack f n = span (byte f) 0 n
