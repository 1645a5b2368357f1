-- The bits of a byte string. Assumes nothing.
use Rattle.std.specs.Prelude.{List, ℕ, ◌-◌, ◌/◌, ◌%◌, ◌^◌, get_or}

-- "Bit i of a byte string is bit 7-(i mod 8) of byte i div 8."
abbrev pub bit_at : List ℕ → ℕ → ℕ
bit_at s i = get_or s (i / 8) 0 / 2 ^ (7 - i % 8) % 2
