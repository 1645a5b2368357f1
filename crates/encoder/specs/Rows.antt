-- What the steps of the encoder leave in the parity part. Assumes nothing.
use Rattle.std.specs.Prelude.{List, ℕ, ◌+◌, ◌-◌, ◌*◌, ◌/◌, ◌%◌, ◌^◌, get_or, length}
use Rattle.maths.specs.Sums.{sum_n}
use Rattle.maths.specs.Bits.{bit_at}
use Rattle.maths.specs.Bytes.{pack}
use Rattle.encoder.specs.Rotation.{bits_from}

-- "adds (mod 2)": the bits f are added to those of a byte string
unfoldable pub added : List ℕ → (ℕ → ℕ) → List ℕ
added s f = pack (λ j. bit_at s j + f j) (length s)

-- the bits of a word, the highest first: "most significant byte first"
abbrev pub word_bit : ℕ → ℕ → ℕ
word_bit word j = word / 2 ^ (63 - j) % 2

-- the bits of words, one after the other
abbrev pub words_bit : List ℕ → ℕ → ℕ
words_bit words j = word_bit (get_or words (j / 64) 0) (j % 64)

-- bit j of row c, of len bytes to a row
abbrev pub row_bit : ℕ → List ℕ → ℕ → ℕ → ℕ
row_bit len rows c = bits_from rows (c * len)

-- what the rows c below m add whose data bit c × b + o is set
abbrev pub rows_at : ℕ → (ℕ → ℕ → ℕ) → (ℕ → ℕ) → ℕ → ℕ → ℕ → ℕ
rows_at b G d o m j = sum_n m (λ c. d (c * b + o) * G c j)

-- "each block of b bits" rotated left by one
abbrev pub blocks_turned : ℕ → (ℕ → ℕ) → ℕ → ℕ
blocks_turned b w j = w (j / b * b + (j % b + 1) % b)
