-- From the bytes of a call to the outcome of the definition. Assumes nothing.
use mathlib.Core.Bool.{Bool}
use mathlib.Core.List.{List}
use mathlib.Core.Path.{◌≡◌, sym, ap, subst, ◌∙◌}
use Prim.Native.Nat.{ℕ, ◌+◌, ◌-◌, ◌*◌, ◌≤◌, ◌<◌}
use native.Mathlib.Decide.{dec_lt}
use native.Mathlib.Omega.{arith}
use borrow.Author.Rules.{rules}
use borrow.Author.Tests.{le-leb, lt-leb}
use lib.Dec.{ltb, leb}
use lib.ListN.{length, replicate}
use Rattle.maths.specs.Tests.{pick, both}
use Rattle.maths.specs.Bits.{bit_at}
use Rattle.maths.specs.Lists.{span}
use Rattle.maths.proofs.Tests.{pick_both}
use Rattle.maths.proofs.Lists.{span_length, span_ext}
use Rattle.maths.proofs.Slices.{overwrite_at, lent_long, lent_full}
use Rattle.maths.proofs.Bytes.{bit_at_low, bit_at_past}
use Rattle.bits.specs.Packed.{whole_bytes, unpacked, packed}
use Rattle.bits.proofs.Packed.{packed_whole}
use Rattle.codes.specs.declared.CodeParams.{CodeParams}
use Rattle.codes.specs.Codes.{Known, row_of, bits_in, checks_in}
use Rattle.codes.specs.Edges.{Edge, edges}
use Rattle.codes.specs.Equations.{word_of}
use Rattle.codes.proofs.Codes.{roomy}
use Rattle.codes.proofs.Bounds.{bounds}
use Rattle.runs.specs.declared.EdgeRun.{EdgeRun}
use Rattle.runs.specs.Runs.{runs, laid}
use Rattle.runs.proofs.Parity.{laid_runs, checks_lent}
use Rattle.runs.proofs.Degrees.{few_laid}
use Rattle.report.specs.declared.Report.{Report}
use Rattle.bit_flip.specs.Erasures.{ayes, nays, voted, Filled, filled, erasure_passes, from_on}
use Rattle.bit_flip.specs.Outcome.{left, decoded_to, decode_word, decoded_word, decoded}
use Rattle.bit_flip.specs.Steps.{set_from, FewLaid, Bits, Accepted}
use Rattle.bit_flip.proofs.Scores.{span_bits}

-- ---- the word that was received
pub received_by : (s d b b' : List ℕ) (n : ℕ) → b' ≡ set_from n 0 b → b ≡ unpacked s d → length b ≡ length d → 8 * length s ≡ n → n ≤ length d
    → b' ≡ span (bit_at s) 0 (length d)
unfolding set_from
received_by s d b b' n eb' eb el e h =
    eb' ∙ rw el (span_ext _ _ 0 0 (length d) (λ v k. go (0 + v) (dec_lt (0 + v) n)))
  where
    go : (v : ℕ) → Dec (v < n) → pick (leb n v) 0 (word_of b v) ≡ bit_at s v
    go v (yes l) = rw (lt-leb n v l, eb) (overwrite_at (bit_at s) d 0 (8 * whole_bytes (length s) (length d)) v (omega arith))
    go v (no l) = rw (le-leb n v (omega arith)) (sym (bit_at_past s v (omega arith)))

pub received_bits : (s : List ℕ) (t : ℕ) {b : List ℕ} → b ≡ span (bit_at s) 0 t → Bits b
received_bits s t e = rw e (span_bits (bit_at s) (bit_at_low s) t)

-- ---- what the erasure passes keep, and count
pub voted_length : (erased : ℕ → Bool) (es : List Edge) (w : List ℕ) → length (voted erased es w) ≡ length w
unfolding voted
voted_length erased es w = span_length _ 0 (length w)

pub filled_bits : (erased : ℕ → Bool) (es : List Edge) (p limit : ℕ) (w w' : List ℕ) (n : ℕ) → filled w' n ≡ erasure_passes erased es p limit w → Bits w → Bits w'
unfolding erasure_passes voted
filled_bits erased es p limit w w' n e bits =
    subst Bits (sym (ap (λ (f : Filled). f.word) e))
    (pick_both Bits (both (ltb 0 p) (ltb 0 limit)) (voted erased es w) w
    (span_bits _ (λ v. pick_both (λ (x : ℕ). x < 2) (erased v) _ (word_of w v)
    (pick_both (λ (x : ℕ). x < 2) (ltb (nays erased es w v) (ayes erased es w v)) 1 0 (omega arith) (omega arith)) (bits v)) (length w))
    bits)

pub filled_none : (erased : ℕ → Bool) (es : List Edge) (p limit : ℕ) (w w' : List ℕ) (n : ℕ) → filled w' n ≡ erasure_passes erased es p limit w → n ≡ 0
unfolding erasure_passes
filled_none erased es p limit w w' n e = ap (λ (f : Filled). f.count) e

pub ruleset decodes = (received_by, received_bits, filled_bits, rules)

-- ---- the runs of a code
pub few_listed : (code : ℕ) (rs : List EdgeRun) → rs ≡ runs code → FewLaid rs
few_listed code rs e m n = rw e (record { at = λ v. omega (arith, few_laid code m n v) })

-- ---- an accepted call
-- a working buffer of the length asked for has a byte for each bit
pub working_bits : (code working : ℕ) → Known code → working ≡ (row_of code).decode_bf_working_len → working ≡ bits_in code
working_bits code working known long = long ∙ (roomy code known).working

module _ (code : ℕ) (row : CodeParams) (input : ℕ) (a : Accepted code row input) (working : ℕ) (bits_are : working ≡ bits_in code) where
  pub whole_input : 8 * input ≡ row.n
  whole_input = rw (a.input_long, a.is_row) (roomy code a.known).sent

  pub sent_low : row.n ≤ working
  sent_low = rw (bits_are, a.is_row) (omega arith)

  module _ (q : List EdgeRun) (e : q ≡ runs code) (checks : ℕ) (checks_are : checks ≡ checks_in code) where
    edges_are : laid checks working q ≡ edges code
    edges_are = rw (e, checks_are, bits_are) (laid_runs code a.known)

    pub word_decoded : (s w : List ℕ) (limit : ℕ) (r : Report)
        → decoded_to r w
        ≡ decode_word (laid checks working q) checks (from_on row.n working) (working - row.n) limit (span (bit_at s) 0 working)
        → decoded_to r w ≡ decoded_word code s limit
    word_decoded s w limit r d =
        let p : bits_in code - (row_of code).n ≡ (row_of code).punctured_bits = omega arith in
        rw p at (rw (edges_are, checks_are, bits_are, a.is_row) at d)

pub decoded_by : (code limit : ℕ) (s o w o' w' : List ℕ) (r : Report) → Known code → decoded_to r w ≡ decoded_word code s limit
    → o' ≡ packed w o → w' ≡ replicate (length w) 0 → length w ≡ bits_in code → length o ≡ (row_of code).output_len → left r o' w' ≡ decoded code s limit
unfolding decoded
decoded_by code limit s o w o' w' r known d eo ew b lo =
    let p = packed_whole w o (omega (arith, lo, b, (roomy code known).whole)) in
    rw (ew, eo, p, b, lo, ← d)

pub ruleset decoding = (lent_long, lent_full, bounds, whole_input, sent_low, few_listed, word_decoded, checks_lent, decoded_by, rules)
