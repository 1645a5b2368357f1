-- The examples of document 01 that are marked P, and its whole sheet, as one claim about the definitions. Assumes nothing.
use Rattle.std.specs.Prelude.{true, false, List, [], ◌∷◌, ◌≡◌, ℕ, ◌-◌, ◌/◌, ◌%◌, ◌^◌, ℤ, pos, negsuc, length, get_or, drop, replicate}
use Rattle.maths.specs.Lists.{span}
use Rattle.codes.specs.Answers.{first_of}
use Rattle.codes.specs.Codes.{Known, row_of, params_of, generator_of}
use Rattle.codes.specs.Edges.{identity_column}
use Rattle.codes.specs.Walk.{remaining, begun_of}
use Rattle.codes.specs.Frames.{encoded_bytes}
use Rattle.report.specs.Report.{ending}
use Rattle.encoder.specs.Outcomes.{encode_tests, copy_tests}
use Rattle.encoder.specs.Rotation.{rotated}
use Rattle.bit_flip.specs.Outcome as flip
use Rattle.min_sum.specs.Confidence.{i8}
use Rattle.min_sum.specs.MinSum.{hard_bits}
use Rattle.min_sum.specs.Outcomes.{left, decode_answer, decode_outcome}
use Rattle.sheet_values.specs.Spelling.{ascii}
use Rattle.sheet.specs.Sheet.{sheet_of}

-- n zero bytes
abbrev pub zeros : ℕ → List ℕ
zeros n = replicate n 0

pub record Examples : Type 0 where
  -- "identity block, M 16, value 7, row 12: column 3."
  pub identity : identity_column 16 7 12 ≡ 3
  -- "100 + 50 = 127; -100 - 50 = -128; |-128| = 127; hard bit of 0 is 0."
  pub sum : i8.add (pos 100) (pos 50) ≡ pos 127
  pub difference : i8.subtract (negsuc 99) (pos 50) ≡ negsuc 127
  pub magnitude : i8.magnitude (negsuc 127) ≡ pos 127
  pub hard_bit : hard_bits i8 (pos 0 ∷ []) 0 ≡ 0
  -- "the 16-bit block 8001 (hex) rotated left by one is 0003."
  pub rotation : rotated (0x80 ∷ 0x01 ∷ []) 0 2 ≡ 0x00 ∷ 0x03 ∷ []
  -- "TC128 walk: 512 edges."
  pub begins : (begun_of 0).answer ≡ 0
  pub walk : length (remaining (begun_of 0).walk) ≡ 512
  -- "zero data encodes to zeros."
  pub zero_data : (code : ℕ) → Known code → encoded_bytes code (zeros ((row_of code).k / 8)) ≡ zeros ((row_of code).n / 8)
  -- "TC128 data with only bit 0 set: parity is the first generator word, high byte first."
  pub one_bit : drop 8 (encoded_bytes 0 (0x80 ∷ zeros 7)) ≡ span (λ i. get_or (generator_of 0) 0 0 / 256 ^ (7 - i) % 256) 0 8
  -- "zero TC128 frame, bf: limit 1 gives (true, 0), limit 0 gives (false, 0)."
  pub flip_once : (old working : List ℕ) → length old ≡ 16 → length working ≡ 128
      → flip.outcome 0 (zeros 16) old working 1 ≡ flip.left (ending true 0) (zeros 16) (zeros 128)
  pub flip_never : (old working : List ℕ) → length old ≡ 16 → length working ≡ 128
      → flip.outcome 0 (zeros 16) old working 0 ≡ flip.left (ending false 0) (zeros 16) (zeros 128)
  -- "zero LLRs, limit 1, ms: (true, 0), zeros."
  pub soft_once : (code : ℕ) (old signs : List ℕ) (working : List ℤ) → decode_answer code (row_of code).n (length old) (length working) (length signs) ≡ 0
      → decode_outcome i8 code (replicate (row_of code).n (pos 0)) old working signs 1
      ≡ left (ending true 0) (zeros (row_of code).output_len) (replicate (length working) (pos 0)) (zeros (length signs))
  -- "code 8 accepted, 9 refused 1": by the parameters, both encoders and both decoders, with the lengths that the code asks for
  pub last_code : (params_of 8).answer ≡ 0
  pub last_encode : first_of (encode_tests 8 ((row_of 8).n / 8)) ≡ 0
  pub last_copy : first_of (copy_tests 8 ((row_of 8).k / 8) ((row_of 8).n / 8)) ≡ 0
  pub last_flip : let r = row_of 8 in first_of (flip.tests 8 (r.n / 8) r.output_len r.decode_bf_working_len) ≡ 0
  pub last_soft : let r = row_of 8 in decode_answer 8 r.n r.output_len r.decode_ms_working_len r.decode_ms_working_u8_len ≡ 0
  -- and with any lengths
  pub no_code : (params_of 9).answer ≡ 1
  pub no_encode : (codeword : ℕ) → first_of (encode_tests 9 codeword) ≡ 1
  pub no_copy : (message codeword : ℕ) → first_of (copy_tests 9 message codeword) ≡ 1
  pub no_flip : (input output working : ℕ) → first_of (flip.tests 9 input output working) ≡ 1
  pub no_soft : (llrs output working signs : ℕ) → decode_answer 9 llrs output working signs ≡ 1
  -- "Input, then the whole output", of the bench sheet
  pub whole_sheet : sheet_of (ascii "code=0\nop=bf\nmaxiters=1\nframe=00000000000000000000000000000000\n")
      ≡ ascii "answer=0\nsuccess=1\niters=0\noutput=00000000000000000000000000000000\n"
