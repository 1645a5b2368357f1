-- The bits of a frame that are not sent, set by the checks that have no other of them. Assumes nothing.
use Rattle.std.specs.Prelude.{List, ◌≡◌, ℕ, ◌+◌, ◌-◌, ◌*◌, ◌%◌, ◌<◌, eqb, length}
use Rattle.maths.specs.Tests.{pick}
use Rattle.maths.specs.Lists.{keep}
use Rattle.maths.specs.Sums.{sum_l}
use Rattle.maths.specs.Bits.{bit_at}
use Rattle.maths.specs.Bytes.{Bytes, pack}
use Rattle.codes.specs.Codes.{row_of}
use Rattle.codes.specs.Edges.{edges}
use Rattle.codes.specs.Equations.{bits_of, checks_of, Meets}
use Rattle.bit_flip.specs.Erasures.{erased_edges}
use Rattle.bit_flip.specs.Outcome.{punctured}

-- "a check with no other punctured edge": those of a bit, each as often as it has edges to the bit
abbrev pub alone_of : ℕ → ℕ → List ℕ
alone_of code v = keep (λ a. eqb (erased_edges (punctured code) (edges code) a) 1) (checks_of (edges code) v)

-- the first check of the third row of blocks, and there the check of a punctured bit
abbrev pub third_row : ℕ → ℕ
third_row code = 2 * (row_of code).submatrix_size

abbrev pub lone : ℕ → ℕ → ℕ
lone code v = third_row code + (v - (row_of code).n)

-- the parity of the bits of a check that are sent
abbrev pub sent_parity : ℕ → (ℕ → ℕ) → ℕ → ℕ
sent_parity code w a = sum_l (bits_of (edges code) a) (λ u. pick (punctured code u) 0 (w u)) % 2

-- a "completion by punctured bits": the word with each of them set so that its check holds
abbrev pub completion : ℕ → (ℕ → ℕ) → ℕ → ℕ
completion code w v = pick (punctured code v) (sent_parity code w (lone code v)) (w v)

-- its bytes, of a frame of n/8 bytes
abbrev pub completion_bytes : ℕ → List ℕ → List ℕ
completion_bytes code frame = pack (completion code (bit_at frame)) (row_of code).output_len

-- any completion of a frame: (n+p)/8 bytes that start with it and "meet all equations"
pub record Completes (code : ℕ) (frame word : List ℕ) : Type 0 where
  pub long : length word ≡ (row_of code).output_len
  pub bytes : Bytes word
  pub front : (v : ℕ) → v < (row_of code).n → bit_at word v ≡ bit_at frame v
  pub meets : Meets code (bit_at word)
