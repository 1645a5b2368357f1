-- What the rows and the tables of the codes satisfy, each by one test over all codes; and what `params` answered. Assumes nothing.
use mathlib.Core.Bool.{Bool, true, false}
use mathlib.Core.List.{[]}
use mathlib.Core.Path.{◌≡◌, refl, sym, ◌∙◌, subst}
use Prim.Native.Nat.{ℕ, ◌+◌, ◌-◌, ◌*◌, ◌/◌, ◌%◌, ◌≤◌, ◌<◌}
use native.Mathlib.Omega.{arith}
use lib.Dec.{T, ltb, leb, eqb, ltb→lt, leb→le}
use lib.ListN.{length, get_or, get_or-eq_default}
use borrow.Author.Tests.{ltb-true, ltb-false}
use Rattle.maths.specs.Tests.{pick, all, below}
use Rattle.maths.proofs.Tests.{all_anywhere, below_at, below_eq}
use Rattle.maths.proofs.Lists.{span_length, flat_map_length}
use Rattle.codes.specs.declared.CodeParams.{CodeParams}
use Rattle.std.specs.Prelude.{Ok, Err}
use Rattle.codes.specs.declared.Code.{Code}
use Rattle.codes.specs.declared.Code.TheVariants.{TC128}
use Rattle.std.proofs.Common.{rules}
use Rattle.codes.specs.declared.refusal.Refusal.{Refusal}
use Rattle.codes.specs.declared.refusal.Refusal.TheVariants.{UnknownCode}
use Rattle.codes.specs.declared.parity_iter.Block.{Block}
use Rattle.codes.specs.declared.parity_iter.Block.TheVariants.{Ends, Empty, Identity, Permutation}
use Rattle.tables.specs.Choice.{listed}
use Rattle.tables.specs.Tables.{prototypes}
use Rattle.codes.specs.Codes.{codes, all_codes, code_at, Known, known, params_at, tc_codes, TC, TM, rows, row, row_of, bits_in, checks_in, circulant_of, tables, tables_of, matrix_of, prototype_of, max_block, max_sent, max_sent_bytes, max_bits, max_bytes, max_checks, max_soft_working, max_signs}
use Rattle.codes.specs.Blocks.{byte_at, block_of, cell_blocks, row_blocks, last_rows}
use Rattle.codes.specs.Edges.{edge_at, block_edges, blocks_of, edges}
use Rattle.codes.specs.Sound.{BlockSize, Small, Bounded, Roomy}

-- a length of every row, and of the zeros of a code that is not known, is at most so much
row_most : (length : CodeParams → ℕ) (most : ℕ) → T (leb (length (row 0 0 0 0 0 0)) most) → T (all (λ r. leb (length r) most) rows)
    → (code : ℕ) → length (row_of code) ≤ most
row_most length most z h code = leb→le (length (row_of code)) most (all_anywhere (λ r. leb (length r) most) (row 0 0 0 0 0 0) z rows h code)

-- one number of every known code is at most another
most : (f g : ℕ → ℕ) → T (below codes (λ c. leb (f c) (g c))) → (code : ℕ) → Known code → f code ≤ g code
most f g t code h = leb→le (f code) (g code) (below_at codes (λ c. leb (f c) (g c)) t code h)

-- the facts about the rows, each by one test of them all
pub bounded : (code : ℕ) → Bounded (row_of code)
unfolding rows
bounded code =
    record {
      sent = row_most (λ r. r.n) max_sent tt tt code;
      sent_bytes = row_most (λ r. r.n / 8) max_sent_bytes tt tt code;
      bits = row_most (λ r. r.n + r.punctured_bits) max_bits tt tt code;
      data_low = omega (arith, row_most (λ r. r.k - (r.n + r.punctured_bits)) 0 tt tt code);
      checks = row_most (λ r. r.n + r.punctured_bits - r.k) max_checks tt tt code;
      messages = row_most (λ r. 2 * r.paritycheck_sum + (r.n + r.punctured_bits) + (r.n + r.punctured_bits - r.k)) max_soft_working tt tt code;
      output = row_most (λ r. r.output_len) max_bytes tt tt code;
      flip_working = row_most (λ r. r.decode_bf_working_len) max_bits tt tt code;
      soft_working = row_most (λ r. r.decode_ms_working_len) max_soft_working tt tt code;
      signs = row_most (λ r. r.decode_ms_working_u8_len) max_signs tt tt code;
    }

pub roomy : (code : ℕ) → Known code → Roomy (row_of code)
unfolding rows
roomy code h =
    record {
      block = record {
        low = most (λ c. 16) (λ c. (row_of c).submatrix_size) tt code h;
        high = row_most (λ r. r.submatrix_size) max_block tt tt code;
        four = below_eq codes (λ c. (row_of c).submatrix_size % 4) (λ c. 0) tt code h;
      };
      rows_fit = most checks_in (λ c. 4 * (row_of c).submatrix_size) tt code h;
      columns_fit = most bits_in (λ c. 11 * (row_of c).submatrix_size) tt code h;
      k_low = most (λ c. (row_of c).k) (λ c. (row_of c).n) tt code h;
      data_bytes = below_eq codes (λ c. 8 * ((row_of c).k / 8)) (λ c. (row_of c).k) tt code h;
      sent = below_eq codes (λ c. 8 * ((row_of c).n / 8)) (λ c. (row_of c).n) tt code h;
      whole = below_eq codes (λ c. 8 * (row_of c).output_len) bits_in tt code h;
      signs = below_eq codes (λ c. 8 * (row_of c).decode_ms_working_u8_len) checks_in tt code h;
      working = below_eq codes (λ c. (row_of c).decode_bf_working_len) bits_in tt code h;
      soft_working = below_eq codes (λ c. (row_of c).decode_ms_working_len) (λ c. 2 * (row_of c).paritycheck_sum + bits_in c + 2 * checks_in c) tt code h;
      circulant = most (λ c. 8) circulant_of tt code h;
      circulant_bytes = below_eq codes (λ c. circulant_of c / 8 * 8) circulant_of tt code h;
      block_circulants = below_eq codes (λ c. (row_of c).submatrix_size / circulant_of c * circulant_of c) (λ c. (row_of c).submatrix_size) tt code h;
      data_circulants = below_eq codes (λ c. (row_of c).k / circulant_of c * circulant_of c) (λ c. (row_of c).k) tt code h;
      parity_circulants = below_eq codes (λ c. ((row_of c).n - (row_of c).k) / circulant_of c * circulant_of c) (λ c. (row_of c).n - (row_of c).k) tt code h;
      check_circulants = below_eq codes (λ c. checks_in c / circulant_of c * circulant_of c) checks_in tt code h;
      bit_circulants = below_eq codes (λ c. bits_in c / circulant_of c * circulant_of c) bits_in tt code h;
      parity_low = most (λ c. 8) (λ c. (row_of c).n - (row_of c).k) tt code h;
      parity_words = below_eq codes (λ c. ((row_of c).n - (row_of c).k) / 64 * 64) (λ c. (row_of c).n - (row_of c).k) tt code h;
    }

pub sized : (code : ℕ) → Known code → BlockSize (row_of code).submatrix_size
sized code h = (roomy code h).block

-- every bit of a TC code is sent
pub tc_sent : (code : ℕ) → TC code → (row_of code).punctured_bits ≡ 0
unfolding rows
tc_sent code h = below_eq tc_codes (λ c. (row_of c).punctured_bits) (λ c. 0) tt code h

-- a test of every TM code
abbrev pub tm_codes : ℕ
tm_codes = codes - tc_codes

pub tm_at : (test : ℕ → Bool) → T (below tm_codes (λ c. test (tc_codes + c))) → (code : ℕ) → TM code → T (test code)
tm_at test t code (low, high) =
    let e : tc_codes + (code - tc_codes) ≡ code = omega (arith, low) in
    subst (λ (c : ℕ). T (test c)) e (below_at tm_codes (λ c. test (tc_codes + c)) t (code - tc_codes) (omega (arith, low, high)))

-- some bits of a TM code are not sent
pub tm_punctured : (code : ℕ) → TM code → 0 < (row_of code).punctured_bits
unfolding rows
tm_punctured code tm = ltb→lt 0 (row_of code).punctured_bits (tm_at (λ c. ltb 0 (row_of c).punctured_bits) tt code tm)

-- the first tables where a code is not known
pub tables_unknown : (code : ℕ) → codes ≤ code → tables_of code ≡ record { prototype = 0; phi = 0 }
unfolding tables
tables_unknown code h = get_or-eq_default tables _ h

-- every prototype byte is below 154, so that a permutation's value is below 26
byte_test : ℕ → Bool
byte_test b = ltb b 154

byte_low : (code l r c : ℕ) → byte_at (prototype_of code) l r c < 154
unfolding prototypes byte_test
byte_low code l r c =
    let H = prototype_of code in
    let a = all_anywhere (all (all (all byte_test))) [] tt prototypes tt (listed (tables_of code).prototype (length prototypes)) in
    let b = all_anywhere (all (all byte_test)) [] tt H a l in
    let d = all_anywhere (all byte_test) [] tt (get_or H l []) b r in
    ltb→lt (byte_at H l r c) 154 (all_anywhere byte_test 0 tt (get_or (get_or H l []) r []) d c)

small_pick : (t : Bool) (a b : Block) → (t ≡ true → Small a) → (t ≡ false → Small b) → Small (pick t a b)
small_pick true a b x y = x refl
small_pick false a b x y = y refl

byte_small : (b : ℕ) → b < 154 → Small (block_of b)
unfolding block_of
byte_small b h =
    small_pick (ltb b 64) _ _
    (λ _. small_pick (eqb b 0) Ends Empty (λ _. tt) (λ _. tt))
    (λ _. small_pick (ltb b 128) (Identity (b % 64)) _
    (λ _. omega arith)
    (λ e. small_pick (ltb b 192) (Permutation (b % 64)) Empty (λ _. omega (arith, ltb-false b 128 e)) (λ _. tt)))

-- the block b is one of the code's
pub block_small : (code l r c : ℕ) (b : Block) → b ≡ block_of (byte_at (prototype_of code) l r c) → Small b
block_small code l r c b e = subst Small (sym e) (byte_small (byte_at (prototype_of code) l r c) (byte_low code l r c))

block_count : (code : ℕ) → Known code → length (blocks_of code) * (matrix_of code).size ≡ (row_of code).paritycheck_sum
unfolding rows tables prototypes blocks_of last_rows row_blocks cell_blocks block_of
block_count code h = below_eq codes (λ c. length (blocks_of c) * (matrix_of c).size) (λ c. (row_of c).paritycheck_sum) tt code h

-- "E edges in all"
pub edge_count : (code : ℕ) → Known code → length (edges code) ≡ (row_of code).paritycheck_sum
unfolding edges block_edges
edge_count code h =
    flat_map_length (block_edges (matrix_of code)) (matrix_of code).size (blocks_of code)
    (λ p. span_length (edge_at (matrix_of code) p) 0 (matrix_of code).size)
    ∙ block_count code h

-- ---- what was asked by `params`
module _ (code : ℕ) where
  asked_by : (b : Bool) {row : CodeParams} → known code ≡ b → Ok row ≡ pick b (Ok (row_of code)) (Err UnknownCode) → Known code × (row ≡ row_of code)
  asked_by true k e = (ltb-true code codes k, search (rules, e))
  asked_by false k e = search (rules, e)

  -- a code whose parameters are not refused, and one whose parameters are
  pub asked_known : {row : CodeParams} → Ok row ≡ params_at code → Known code × (row ≡ row_of code)
  asked_known e = asked_by (known code) refl e

  unasked_by : (b : Bool) {why : Refusal} → Err why ≡ pick b (Ok (row_of code)) (Err UnknownCode) → (b ≡ false) × (why ≡ UnknownCode)
  unasked_by true e = search (rules, e)
  unasked_by false e = (refl, search (rules, e))

  pub asked_unknown : {why : Refusal} → Err why ≡ params_at code → (known code ≡ false) × (why ≡ UnknownCode)
  asked_unknown e = unasked_by (known code) e

-- ---- what a number says of the code
module _ (n : ℕ) where
  known_by : (b : Bool) {code : Code} → Ok code ≡ pick b (Ok (get_or all_codes n TC128)) (Err UnknownCode) → b ≡ true
  known_by true e = refl
  known_by false e = search (rules, e)

  pub code_known : {code : Code} → Ok code ≡ code_at n → known n ≡ true
  code_known e = known_by (known n) e

  unknown_by : (b : Bool) {why : Refusal} → Err why ≡ pick b (Ok (get_or all_codes n TC128)) (Err UnknownCode) → (b ≡ false) × (why ≡ UnknownCode)
  unknown_by true e = search (rules, e)
  unknown_by false e = (refl, search (rules, e))

  pub code_unknown : {why : Refusal} → Err why ≡ code_at n → (known n ≡ false) × (why ≡ UnknownCode)
  code_unknown e = unknown_by (known n) e
