-- Byte strings as one byte for a bit. Assumes nothing.
use Rattle.std.specs.Prelude.{List, [], ◌∷◌, ℕ, ◌*◌, ◌/◌, ◌%◌, min, length, get_or}
use Rattle.maths.specs.Bits.{bit_at}
use Rattle.maths.specs.Bytes.{byte}
use Rattle.maths.specs.Lists.{overwrite}

-- how many whole bytes both have room for
abbrev pub whole_bytes : ℕ → ℕ → ℕ
whole_bytes bytes bits = min bytes (bits / 8)

-- the eight bits of a byte, the highest first
abbrev pub eight : ℕ → List ℕ
eight x = x / 128 % 2 ∷ x / 64 % 2 ∷ x / 32 % 2 ∷ x / 16 % 2 ∷ x / 8 % 2 ∷ x / 4 % 2 ∷ x / 2 % 2 ∷ x % 2 ∷ []

-- a list of bits after the bits of a byte string were put at its start, and a byte string after the bytes of a list of bits were: as many whole bytes as there is room for
abbrev pub unpacked : List ℕ → List ℕ → List ℕ
unpacked bytes bits = overwrite (bit_at bytes) (8 * whole_bytes (length bytes) (length bits)) bits

abbrev pub packed : List ℕ → List ℕ → List ℕ
packed bits bytes = overwrite (byte (λ v. get_or bits v 0)) (whole_bytes (length bytes) (length bits)) bytes
