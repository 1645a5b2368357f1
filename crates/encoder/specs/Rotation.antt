-- A block of a byte string rotated left by one. Assumes nothing.
use Rattle.std.specs.Prelude.{List, ◌++◌, ℕ, ◌+◌, ◌*◌, ◌%◌, take, drop}
use Rattle.maths.specs.Bits.{bit_at}
use Rattle.maths.specs.Bytes.{pack}

-- the len bytes from at on are made of the bits f, and every other byte is as it was
unfoldable pub placed : List ℕ → ℕ → ℕ → (ℕ → ℕ) → List ℕ
placed s at len f = take at s ++ (pack f len ++ drop (at + len) s)

-- the bits of a byte string from byte at on
abbrev pub bits_from : List ℕ → ℕ → ℕ → ℕ
bits_from s at j = bit_at s (at * 8 + j)

-- m bits rotated left by one: bit j is what bit (j + 1) mod m was
abbrev pub turned : ℕ → (ℕ → ℕ) → ℕ → ℕ
turned m w j = w ((j + 1) % m)

-- "rotated left by one": the block of len bytes from at on
unfoldable pub rotated : List ℕ → ℕ → ℕ → List ℕ
rotated s at len = placed s at len (turned (len * 8) (bits_from s at))
