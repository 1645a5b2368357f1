-- Whether a word meets the equations of a code, as the functions ask it and as the theorems say it. Assumes nothing.
use Rattle.std.proofs.Common.{◌≡◌, ℕ, ◌+◌, ◌-◌, ◌*◌, ◌%◌, ◌≤◌, Bool, true, false, T, eqb, List, length, take, replicate, sym, ◌∙◌, arith, rules, eq-eqb, ne_eqb, eqb-true}
use Rattle.maths.specs.Tests.{all}
use Rattle.maths.specs.Bits.{bit_at}
use Rattle.maths.specs.Lists.{keep, largest_of}
use Rattle.maths.proofs.Tests.{both_first, both_second, below_true, below_all, all_flat_map}
use Rattle.maths.proofs.Lists.{keep_all, keep_holds}
use Rattle.maths.proofs.Slices.{largest_none, lent_long, lent_full}
use Rattle.bits.specs.Packed.{unpacked}
use Rattle.bits.proofs.Packed.{unpacked_word}
use Rattle.runs.specs.declared.EdgeRun.{EdgeRun}
use Rattle.codes.specs.declared.CodeParams.{CodeParams}
use Rattle.codes.specs.Codes.{Known, row_of, bits_in, checks_in, max_bits, max_checks}
use Rattle.codes.specs.Edges.{Edge, in_range, edges}
use Rattle.runs.specs.Runs.{run_edges, runs, within, laid}
use Rattle.codes.specs.Equations.{par, Hold, Meets, word_of}
use Rattle.runs.specs.Meets.{holds, none_broken, meets_test, syndrome_of, met_of, Accepted}
use Rattle.codes.proofs.Codes.{roomy}
use Rattle.codes.proofs.Bounds.{row_bounded, bounds}
use Rattle.runs.proofs.Flat.{runs_flat, runs_within, run_ranged}

-- ---- the test and what it says
pub holds_hold : (es : List Edge) (m : ℕ) (w : ℕ → ℕ) → holds es m w ≡ true → Hold es m w
holds_hold es m w e a h = eqb-true (par es w a % 2) 0 (below_true m (λ a. eqb (par es w a % 2) 0) e a h)

pub hold_holds : (es : List Edge) (m : ℕ) (w : ℕ → ℕ) → Hold es m w → holds es m w ≡ true
hold_holds es m w p = below_all m (λ a. eqb (par es w a % 2) 0) (λ a h. eq-eqb (par es w a % 2) 0 (p a h))

-- no byte is above 0 exactly if no check is broken
pub none_broken_lem : (es : List Edge) (m : ℕ) (w : ℕ → ℕ) → eqb (largest_of (syndrome_of es m w)) 0 ≡ holds es m w
unfolding syndrome_of
none_broken_lem es m w = largest_none (λ a. par es w a % 2) m

-- ---- the runs of a code
-- they all lie within, and are its edges
pub laid_runs : (code : ℕ) → Known code → laid (checks_in code) (bits_in code) (runs code) ≡ edges code
unfolding laid
laid_runs code h = rw (keep_all (within (checks_in code) (bits_in code)) (runs code) (runs_within code h)) (runs_flat code)

-- the edges of runs that lie within are in range
pub laid_ranged : (m n : ℕ) (rs : List EdgeRun) → T (all (in_range m n) (laid m n rs))
unfolding laid
laid_ranged m n rs = all_flat_map (within m n) (in_range m n) run_edges (keep (within m n) rs) (keep_holds (within m n) rs) (run_ranged m n)

-- n zeros of an array that holds k of them
abbrev pub zeros : ℕ → ℕ → List ℕ
zeros k n = take n (replicate k 0)

-- ---- what the functions find
pub met_by : (rs : List EdgeRun) (word bits bits' checks : List ℕ) (m n n' r : ℕ) → r ≡ largest_of checks → checks ≡ syndrome_of (laid m n' rs) m (word_of bits') → bits' ≡ unpacked word bits → n' ≡ n
    → eqb r 0 ≡ none_broken (laid m n rs) m (word_of (unpacked word bits))
unfolding none_broken
met_by rs word bits bits' checks m n n' r er ec eb en = rw (er, ec, eb, en)

-- ---- the row of a code
module _ (code : ℕ) (row : CodeParams) (is : row ≡ row_of code) where
  -- as many zeros as it has checks, of any array that has room for them, and as it has bits
  pub checks_lent : (room : ℕ) → row.n + row.punctured_bits - row.k ≤ room → length (zeros room (row.n + row.punctured_bits - row.k)) ≡ checks_in code
  checks_lent room h = sym (lent_full room 0 _ h) ∙ rw is

  bits_lent : length (zeros max_bits (row.n + row.punctured_bits)) ≡ bits_in code
  bits_lent = sym (lent_full max_bits 0 _ (row_bounded code row is).bits) ∙ rw is

pub code_met : (code : ℕ) (row : CodeParams) (word : List ℕ) (q : List EdgeRun) (r : Bool) → Accepted code row (length word) → q ≡ runs code
    → (let checks = zeros max_checks (row.n + row.punctured_bits - row.k) in
    let bits = zeros max_bits (row.n + row.punctured_bits) in
    r ≡ none_broken (laid (length checks) (length bits) q) (length checks) (word_of (unpacked word bits))) → r ≡ meets_test code (bit_at word)
unfolding meets_test none_broken
code_met code row word q r a eq er =
    let n = row.n + row.punctured_bits in
    let l = bits_lent code row a.is_row in
    let w : word_of (unpacked word (zeros max_bits n)) ≡ bit_at word = unpacked_word word (zeros max_bits n) (omega (arith, a.long, l, (roomy code a.known).whole)) in
    er ∙ rw (w, l, checks_lent code row a.is_row max_checks (row_bounded code row a.is_row).checks, eq, laid_runs code a.known) (none_broken_lem (edges code) (checks_in code) (bit_at word))

pub ruleset meeting = (lent_long, lent_full, bounds, met_by, code_met, rules)

-- "met" says that the word is one of the code's and meets every equation
module _ (code : ℕ) (word : List ℕ) where
  pub met_true : (met_of code word).met ≡ true → ((met_of code word).answer ≡ 0) × Meets code (bit_at word)
  unfolding met_of meets_test
  met_true e =
      let answer = (met_of code word).answer in (
        eqb-true answer 0 (both_first (eqb answer 0) (meets_test code (bit_at word)) e),
        holds_hold (edges code) (checks_in code) (bit_at word) (both_second (eqb answer 0) (meets_test code (bit_at word)) e),
      )

  pub true_met : (met_of code word).answer ≡ 0 → Meets code (bit_at word) → (met_of code word).met ≡ true
  unfolding met_of meets_test
  true_met e p = rw (eq-eqb (met_of code word).answer 0 e) (hold_holds (edges code) (checks_in code) (bit_at word) p)
