-- The encoder: the frame of given data, as a word and as bytes. Assumes nothing.
use Rattle.std.specs.Prelude.{List, ◌++◌, ℕ, ◌+◌, ◌-◌, ◌*◌, ◌/◌, ◌%◌, ◌^◌, ltb, get_or}
use Rattle.maths.specs.Tests.{pick}
use Rattle.maths.specs.Sums.{sum_n}
use Rattle.maths.specs.Bits.{bit_at}
use Rattle.maths.specs.Bytes.{pack}
use Rattle.codes.specs.Codes.{row_of, circulant_of, generator_of}

-- "Data bit c × b + o adds (mod 2) row c with each block of b bits rotated right by o": what data bit i adds to parity bit j
abbrev pub adds : ℕ → (ℕ → ℕ → ℕ) → ℕ → ℕ → ℕ
adds b G i j = G (i / b) (j / b * b + (j % b + (b - i % b)) % b)

-- parity bit j of the data d
abbrev pub parity : ℕ → ℕ → (ℕ → ℕ → ℕ) → (ℕ → ℕ) → ℕ → ℕ
parity b k G d j = sum_n k (λ i. d i * adds b G i j) % 2

-- "Data stays": the k data bits, then the parity bits
abbrev pub frame : ℕ → ℕ → (ℕ → ℕ → ℕ) → (ℕ → ℕ) → ℕ → ℕ
frame b k G d v = pick (ltb v k) (d v) (parity b k G d (v - k))

-- bit j of row c, of w words to a row: "most significant byte first"
abbrev pub generator_bit : ℕ → List ℕ → ℕ → ℕ → ℕ
generator_bit w words c j = get_or words (c * w + j / 64) 0 / 2 ^ (63 - j % 64) % 2

-- "With r = n-k, row c of the generator is r/64 words"
abbrev pub generator : ℕ → ℕ → ℕ → ℕ
generator code = generator_bit (((row_of code).n - (row_of code).k) / 64) (generator_of code)

-- the parity bits and the frame of a code
abbrev pub parity_of : ℕ → (ℕ → ℕ) → ℕ → ℕ
parity_of code = parity (circulant_of code) (row_of code).k (generator code)

abbrev pub frame_of : ℕ → (ℕ → ℕ) → ℕ → ℕ
frame_of code = frame (circulant_of code) (row_of code).k (generator code)

-- the bytes of the frame of a message of k/8 bytes
unfoldable pub encoded_bytes : ℕ → List ℕ → List ℕ
encoded_bytes code msg = msg ++ pack (parity_of code (bit_at msg)) (((row_of code).n - (row_of code).k) / 8)
