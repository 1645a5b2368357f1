-- The codes by number: their parameters, and the tables that their matrices and generators are made of. Assumes nothing.
use Rattle.std.specs.Prelude.{Bool, not, List, [], ◌∷◌, ℕ, ◌+◌, ◌-◌, ◌*◌, ◌/◌, ◌≤◌, ◌<◌, ltb, get_or, Result, Ok, Err}
use Rattle.maths.specs.Tests.{pick}
use Rattle.codes.specs.declared.Code.{Code}
use Rattle.codes.specs.declared.Code.TheVariants.{TC128, TC256, TC512, TM1280, TM1536, TM2048, TM5120, TM6144, TM8192}
use Rattle.codes.specs.declared.refusal.Refusal.{Refusal}
use Rattle.codes.specs.declared.refusal.Refusal.TheVariants.{UnknownCode}
use Rattle.codes.specs.declared.CodeParams.{CodeParams}
use Rattle.codes.specs.declared.MatrixTables.{MatrixTables}
use Rattle.codes.specs.Answers.{test, first_of, number}
use Rattle.tables.specs.Choice.{table_at}
use Rattle.tables.specs.Tables.{prototypes, thetas, phis}
use Rattle.tables.specs.Words.{generators}

-- how many codes there are, and which numbers are theirs
abbrev pub codes : ℕ
codes = 9

abbrev pub Known : ℕ → Type 0
Known code = code < codes

abbrev pub known : ℕ → Bool
known code = ltb code codes

-- the number of a code, and the code of a number
abbrev pub number_of : Code → ℕ
number_of TC128 = 0
number_of TC256 = 1
number_of TC512 = 2
number_of TM1280 = 3
number_of TM1536 = 4
number_of TM2048 = 5
number_of TM5120 = 6
number_of TM6144 = 7
number_of TM8192 = 8

abbrev pub all_codes : List Code
all_codes = TC128 ∷ TC256 ∷ TC512 ∷ TM1280 ∷ TM1536 ∷ TM2048 ∷ TM5120 ∷ TM6144 ∷ TM8192 ∷ []

abbrev pub code_at : ℕ → Result Code Refusal
code_at n = pick (known n) (Ok (get_or all_codes n TC128)) (Err UnknownCode)

-- TC128, TC256 and TC512, of which every bit is sent, stand first
abbrev pub tc_codes : ℕ
tc_codes = 3

abbrev pub TC : ℕ → Type 0
TC code = code < tc_codes

-- and those after them, the TM codes
abbrev pub TM : ℕ → Type 0
TM code = (tc_codes ≤ code) × (code < codes)

-- a row: n, k, punctured bits p, block size M, circulant size b, edges E, and the four lengths that follow from them
abbrev pub row : ℕ → ℕ → ℕ → ℕ → ℕ → ℕ → CodeParams
row n k p m b e =
    record {
      n = n;
      k = k;
      punctured_bits = p;
      submatrix_size = m;
      circulant_size = b;
      paritycheck_sum = e;
      decode_bf_working_len = n + p;
      decode_ms_working_len = 2 * e + 3 * (n + p) - 2 * k;
      decode_ms_working_u8_len = (n + p - k) / 8;
      output_len = (n + p) / 8;
    }

-- its ten numbers in the order of the fields
abbrev pub numbers : CodeParams → List ℕ
numbers p =
    p.n ∷ p.k ∷ p.punctured_bits ∷ p.submatrix_size ∷ p.circulant_size ∷ p.paritycheck_sum ∷
    p.decode_bf_working_len ∷ p.decode_ms_working_len ∷ p.decode_ms_working_u8_len ∷ p.output_len ∷ []

unfoldable pub rows : List CodeParams
rows =
    row 128 64 0 16 16 512 ∷
    row 256 128 0 32 32 1024 ∷
    row 512 256 0 64 64 2048 ∷
    row 1280 1024 128 128 32 4992 ∷
    row 1536 1024 256 256 64 5888 ∷
    row 2048 1024 512 512 128 7680 ∷
    row 5120 4096 512 512 128 19968 ∷
    row 6144 4096 1024 1024 256 23552 ∷
    row 8192 4096 2048 2048 512 30720 ∷
    []

-- the row of a code; zeros where the code is not known
abbrev pub row_of : ℕ → CodeParams
row_of code = get_or rows code (row 0 0 0 0 0 0)

abbrev pub params_at : ℕ → Result CodeParams Refusal
params_at code = pick (known code) (Ok (row_of code)) (Err UnknownCode)

-- an answer in numbers, and the parameters
pub record ParamsAnswer : Type 0 where
  pub answer : ℕ
  pub row : CodeParams

-- what a call says; of a refused one the parameters are those by Default
abbrev pub params_by : Result CodeParams Refusal → ParamsAnswer
params_by (Ok p) = record { answer = 0; row = p }
params_by (Err why) = record { answer = number why; row = row 0 0 0 0 0 0 }

-- "Parameters asked for an unknown code are 1 with zeros"
abbrev pub params_of : ℕ → ParamsAnswer
params_of code = record { answer = first_of (test (not (known code)) 1 ∷ []); row = row_of code }

-- no code has larger blocks, more bits sent, more bits in all or more checks, or asks for longer buffers
abbrev pub max_block : ℕ
max_block = 2048

abbrev pub max_sent : ℕ
max_sent = 8192

abbrev pub max_sent_bytes : ℕ
max_sent_bytes = 1024

abbrev pub max_bits : ℕ
max_bits = 10240

abbrev pub max_bytes : ℕ
max_bytes = 1280

abbrev pub max_checks : ℕ
max_checks = 6144

abbrev pub max_soft_working : ℕ
max_soft_working = 83968

abbrev pub max_signs : ℕ
max_signs = 768

-- the bits of a word with those not sent, and the parity equations
abbrev pub bits_in : ℕ → ℕ
bits_in code = (row_of code).n + (row_of code).punctured_bits

abbrev pub checks_in : ℕ → ℕ
checks_in code = bits_in code - (row_of code).k

-- the side of a circulant
abbrev pub circulant_of : ℕ → ℕ
circulant_of code = (row_of code).circulant_size

-- which prototype and which table phi each code has
unfoldable pub tables : List MatrixTables
tables =
    record { prototype = 0; phi = 0 } ∷
    record { prototype = 1; phi = 0 } ∷
    record { prototype = 2; phi = 0 } ∷
    record { prototype = 5; phi = 0 } ∷
    record { prototype = 4; phi = 1 } ∷
    record { prototype = 3; phi = 2 } ∷
    record { prototype = 5; phi = 2 } ∷
    record { prototype = 4; phi = 3 } ∷
    record { prototype = 3; phi = 4 } ∷
    []

abbrev pub tables_of : ℕ → MatrixTables
tables_of code = get_or tables code (record { prototype = 0; phi = 0 })

-- what a parity check matrix is made of: the size M of its blocks, theta, phi, and the prototype's bytes
pub record Matrix : Type 0 where
  pub size : ℕ
  pub theta : List ℕ
  pub phi : List (List ℕ)
  pub prototype : List (List (List ℕ))

abbrev pub made : ℕ → List ℕ → List (List ℕ) → List (List (List ℕ)) → Matrix
made m theta phi H = record { size = m; theta = theta; phi = phi; prototype = H }

abbrev pub prototype_of : ℕ → List (List (List ℕ))
prototype_of code = table_at prototypes (tables_of code).prototype

abbrev pub phi_of : ℕ → List (List ℕ)
phi_of code = table_at phis (tables_of code).phi

abbrev pub matrix_of : ℕ → Matrix
matrix_of code = made (row_of code).submatrix_size thetas (phi_of code) (prototype_of code)

-- the generator's words of a code; none where it is not known
abbrev pub generator_of : ℕ → List ℕ
generator_of code = get_or generators code []
