-- What a case reads, what it must write, and what it records. Assumes nothing.
use Rattle.std.specs.Prelude.{List, map, ℕ, ◌≡◌, ◌≢◌, ◌+◌, ◌-◌, ◌*◌, ◌/◌, eqb, ltb, ℤ, pos, negsuc, length, get_or, Result, MatchResult}
use Rattle.maths.specs.Tests.{pick}
use Rattle.codes.specs.declared.CodeParams.{CodeParams}
use Rattle.report.specs.declared.Report.{Report}
use Rattle.report.specs.Report.{ending}
use Rattle.cases.specs.declared.Case.{Case}
use Rattle.cases.specs.declared.Operation.{Operation}
use Rattle.cases.specs.declared.Operation.TheVariants.{Encoders, BitFlipping, MinSum, HardToLlrs, LlrsToHard, Sheet}
use Rattle.cases.specs.declared.UnknownOperation.{UnknownOperation}

-- the number of an operation in the list
abbrev pub number : Operation → ℕ
number Encoders = 1
number BitFlipping = 2
number MinSum = 3
number HardToLlrs = 4
number LlrsToHard = 5
number Sheet = 6

-- the operation that has a number, or that none has it
abbrev pub Numbers : ℕ → Result Operation UnknownOperation → Type 0
Numbers n r = MatchResult r (λ op. number op ≡ n) (λ e. ((op : Operation) → number op ≢ n) × (e ≡ record { 0 = n }))

-- the case that the bytes of a head stand for, and its operation
pub record Headed (bytes : List ℕ) (c : Case) : Type 0 where
  pub op : c.op ≡ get_or bytes 0 0
  pub known : (op : Operation) × (number op ≡ c.op)
  pub code : c.code ≡ get_or bytes 1 0
  pub limit : c.limit ≡ get_or bytes 2 0
  pub success : c.ended.success ≡ eqb (get_or bytes 3 0) 1
  pub iters : c.ended.iters ≡ get_or bytes 4 0
  pub text : c.text ≡ get_or bytes 1 0 + 256 * get_or bytes 2 0
  pub answer : c.answer ≡ get_or bytes 3 0 + 256 * get_or bytes 4 0

-- that case, or that the first byte is no operation's number
abbrev pub Heads : List ℕ → Result Case UnknownOperation → Type 0
Heads bytes r = MatchResult r (Headed bytes) (λ e. ((op : Operation) → number op ≢ get_or bytes 0 0) × (e ≡ record { 0 = get_or bytes 0 0 }))

-- how many bytes an operation reads; `read_len` says it by number, and of a number that no operation has
abbrev pub bytes_read : Operation → Case → CodeParams → ℕ
bytes_read Encoders c row = row.k / 8
bytes_read BitFlipping c row = row.n / 8
bytes_read MinSum c row = row.n
bytes_read HardToLlrs c row = row.n / 8
bytes_read LlrsToHard c row = row.n
bytes_read Sheet c row = c.text

-- 1 encoders, 2 bit flipping, 3 min-sum, 4 hard_to_llrs, 5 llrs_to_hard, any other a sheet
abbrev pub read_len : Case → CodeParams → ℕ
read_len c row =
    pick (eqb c.op 1) (row.k / 8)
    (pick (eqb c.op 2) (row.n / 8)
    (pick (eqb c.op 3) row.n
    (pick (eqb c.op 4) (row.n / 8)
    (pick (eqb c.op 5) row.n c.text))))

-- how many bytes it writes
abbrev pub bytes_written : Operation → Case → CodeParams → ℕ
bytes_written Encoders c row = row.n / 8
bytes_written BitFlipping c row = row.output_len
bytes_written MinSum c row = row.output_len
bytes_written HardToLlrs c row = row.n
bytes_written LlrsToHard c row = row.n / 8
bytes_written Sheet c row = c.answer

abbrev pub written_len : Case → CodeParams → ℕ
written_len c row =
    pick (eqb c.op 1) (row.n / 8)
    (pick (eqb c.op 2) row.output_len
    (pick (eqb c.op 3) row.output_len
    (pick (eqb c.op 4) row.n
    (pick (eqb c.op 5) (row.n / 8) c.answer))))

-- the report that a case records: accepted, a success or not, and so many iterations
abbrev pub recorded : Case → Report
recorded c = ending c.ended.success c.ended.iters

-- the confidence that a byte stands for: the number from -128 to 127 that is the byte modulo 256
unfoldable pub signed : ℕ → ℤ
signed x = pick (ltb x 128) (pos x) (negsuc (255 - x))

-- confidences after they are read from bytes: those of another length stay as they are
abbrev pub softened : List ℕ → List ℤ → List ℤ
softened bytes soft = pick (eqb (length soft) (length bytes)) (map signed bytes) soft
