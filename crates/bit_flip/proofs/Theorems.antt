-- What holds of every outcome of bit flipping. Assumes nothing.
--     success_meets     a success meets every parity equation
--     clean             a TC word that meets the equations is returned as it is, at pass 0
--     limit_none        without an iteration the output is the input followed by zeros
use mathlib.Core.Bool.{Bool, true, false}
use mathlib.Core.List.{List, ◌++◌}
use mathlib.Core.Path.{◌≡◌, refl, sym, subst, ◌∙◌, fun_ext}
use Prim.Native.Nat.{ℕ, ◌-◌, ◌*◌, ◌/◌, ◌≤◌, ◌<◌}
use native.Mathlib.Nat.{add-zero, mod-eq_of_lt}
use native.Mathlib.Decide.{dec_lt}
use native.Mathlib.Omega.{arith}
use borrow.Author.Tests.{eqb-true, eq-eqb, ltb-true, lt-ltb}
use lib.Dec.{eqb, ltb}
use lib.ListN.{length, replicate, get_or-eq_default}
use Rattle.maths.specs.Tests.{pick, both}
use Rattle.maths.specs.Bits.{bit_at}
use Rattle.maths.specs.Bytes.{Bytes, pack}
use Rattle.maths.specs.Lists.{span}
use Rattle.maths.specs.Budget.{stop, go, End, run}
use Rattle.maths.proofs.Tests.{never, pick_both}
use Rattle.maths.proofs.Lists.{span_length}
use Rattle.maths.proofs.Slices.{span_whole, span_padded}
use Rattle.maths.proofs.Bytes.{bit_at_past, length_pack, bit_at_pack, pack_own, pack_again}
use Rattle.maths.proofs.Budget.{run_success, run_kept, run_at_once}
use Rattle.codes.specs.Answers.{first_of}
use Rattle.codes.specs.Codes.{codes, Known, TC, known, row_of, bits_in, checks_in}
use Rattle.codes.specs.Edges.{Edge, edges}
use Rattle.codes.specs.Equations.{Meets, word_of}
use Rattle.runs.specs.Meets.{holds}
use Rattle.codes.proofs.Codes.{roomy, tc_sent}
use Rattle.runs.proofs.Parity.{holds_hold, hold_holds}
use Rattle.report.specs.Report.{refusal, ending}
use Rattle.bit_flip.specs.Flip.{flipped, turn, passes}
use Rattle.bit_flip.specs.Erasures.{voted, filled, erasure_passes}
use Rattle.bit_flip.specs.Outcome.{left, decode_word, received, punctured, decoded, tests, outcome}
use Rattle.bit_flip.specs.Steps.{Bits}
use Rattle.bit_flip.proofs.Scores.{flipped_length, flipped_bits, gone}
use Rattle.bit_flip.proofs.Votes.{no_bits, no_limit}
use Rattle.bit_flip.proofs.Calls.{received_bits, voted_length, filled_bits}

-- ---- bits as bytes: the same word
packed_word : (w : List ℕ) (n : ℕ) → length w ≡ 8 * n → Bits w → bit_at (pack (word_of w) n) ≡ word_of w
packed_word w n e bits = fun_ext (λ v. at v (dec_lt v (n * 8)))
  where
    at : (v : ℕ) → Dec (v < n * 8) → bit_at (pack (word_of w) n) v ≡ word_of w v
    at v (yes h) = bit_at_pack (word_of w) n v h ∙ mod-eq_of_lt (bits v)
    at v (no h) =
        bit_at_past (pack (word_of w) n) v (omega (arith, length_pack (word_of w) n)) ∙ sym (get_or-eq_default w 0 (omega arith))

-- ---- a pass: what it stops with, and what it keeps
module _ (es : List Edge) (m : ℕ) where
  stopped : (s t : List ℕ) → turn es m s ≡ stop t → (s ≡ t) × (holds es m (word_of t) ≡ true)
  unfolding turn
  stopped s t = by (holds es m (word_of s)) refl
    where
      by : (b : Bool) → holds es m (word_of s) ≡ b → pick b (stop s) (go (flipped es s)) ≡ stop t → (s ≡ t) × (holds es m (word_of t) ≡ true)
      by true h e = let q : s ≡ t = cc in (q, rw (← q) h)
      by false h e = absurd (let z : ◌≡◌ {A = ℕ} 0 1 = cc in omega arith)

  clean_pass : (s : List ℕ) → holds es m (word_of s) ≡ true → turn es m s ≡ stop s
  unfolding turn
  clean_pass s e = rw e

  passes_success : (limit : ℕ) (w : List ℕ) → (passes es m limit w).success ≡ true → holds es m (word_of (passes es m limit w).state) ≡ true
  passes_success limit w e = run_success (turn es m) (λ s. holds es m (word_of s) ≡ true) (λ s t q. (stopped s t q).1) limit 0 w e

  passes_bits : (limit : ℕ) (w : List ℕ) → Bits w → Bits (passes es m limit w).state
  passes_bits limit w h =
      run_kept (turn es m) Bits (λ s t q b. subst Bits (stopped s t q).0 b) (λ s t q b. subst Bits (sym (gone es m s t q)) (flipped_bits es s b)) limit 0 w h

  pub passes_length : (limit : ℕ) (w : List ℕ) → length (passes es m limit w).state ≡ length w
  passes_length limit w =
      run_kept (turn es m) (λ s. length s ≡ length w) (λ s t q l. subst (λ (x : List ℕ). length x ≡ length w) (stopped s t q).0 l)
      (λ s t q l. subst (λ (x : List ℕ). length x ≡ length w) (sym (gone es m s t q)) (flipped_length es s ∙ l)) limit 0 w refl

-- ---- a call that passes its tests
abbrev pub answer_of : ℕ → List ℕ → List ℕ → List ℕ → ℕ
answer_of code input output working = first_of (tests code (length input) (length output) (length working))

module _ (code : ℕ) (input output working : List ℕ) (limit : ℕ) where
  pub is_accepted : answer_of code input output working ≡ 0 → outcome code input output working limit ≡ decoded code input limit
  unfolding outcome
  is_accepted e = rw (eq-eqb (answer_of code input output working) 0 e)

  -- a success was accepted
  succeeded : (outcome code input output working limit).report.success ≡ true → answer_of code input output working ≡ 0
  unfolding outcome
  succeeded = by (eqb (answer_of code input output working) 0) refl
    where
      by : (b : Bool) → eqb (answer_of code input output working) 0 ≡ b
          → (pick b (decoded code input limit) (left (refusal (answer_of code input output working)) output working)).report.success ≡ true
          → answer_of code input output working ≡ 0
      by true h e = eqb-true (answer_of code input output working) 0 h
      by false h e = absurd (never refl e)

  module _ (e : answer_of code input output working ≡ 0) where
    accepted_known : Known code
    accepted_known = by (known code) refl
      where
        by : (b : Bool) → known code ≡ b → Known code
        by true k = ltb-true code codes k
        by false k = absurd (let z : ◌≡◌ {A = ℕ} 1 0 = rw k at e in omega arith)

    pub accepted_input : length input ≡ (row_of code).n / 8
    accepted_input = by (eqb (length input) ((row_of code).n / 8)) refl
      where
        by : (b : Bool) → eqb (length input) ((row_of code).n / 8) ≡ b → length input ≡ (row_of code).n / 8
        by true k = eqb-true (length input) ((row_of code).n / 8) k
        by false k = absurd (let z : ◌≡◌ {A = ℕ} 2 0 = rw (lt-ltb code codes accepted_known, k) at e in omega arith)

-- ---- the word that decoding leaves
module _ (code limit : ℕ) (input : List ℕ) where
  first : List ℕ
  first = (erasure_passes (punctured code) (edges code) (row_of code).punctured_bits limit (received code input)).word

  first_bits : Bits first
  unfolding first
  first_bits = filled_bits (punctured code) (edges code) (row_of code).punctured_bits limit (received code input) _ _ refl (received_bits input (bits_in code) refl)

  first_length : length first ≡ bits_in code
  unfolding first erasure_passes
  first_length =
      pick_both (λ (w : List ℕ). length w ≡ bits_in code) (both (ltb 0 (row_of code).punctured_bits) (ltb 0 limit)) (voted (punctured code) (edges code) (received code input)) (received code input)
      (voted_length (punctured code) (edges code) (received code input) ∙ whole) whole
    where
      whole : length (received code input) ≡ bits_in code
      whole = span_length (bit_at input) 0 (bits_in code)

  last : List ℕ
  last = (passes (edges code) (checks_in code) limit first).state

  last_word : Known code → bit_at (decoded code input limit).output ≡ word_of last
  unfolding decoded decode_word first last
  last_word h =
      packed_word last (row_of code).output_len
      (passes_length (edges code) (checks_in code) limit first ∙ first_length ∙ sym (roomy code h).whole)
      (passes_bits (edges code) (checks_in code) limit first first_bits)

  last_holds : (decoded code input limit).report.success ≡ true → holds (edges code) (checks_in code) (word_of last) ≡ true
  unfolding decoded decode_word first last
  last_holds e = passes_success (edges code) (checks_in code) limit first e

-- what it calls a success meets every parity equation
pub success_meets : (code : ℕ) (input output working : List ℕ) (limit : ℕ) → (outcome code input output working limit).report.success ≡ true
    → Meets code (bit_at (outcome code input output working limit).output)
success_meets code input output working limit e =
    let a = succeeded code input output working limit e in
    let d = is_accepted code input output working limit a in
    let h = accepted_known code input output working limit a in
    let s : (decoded code input limit).report.success ≡ true = rw d at e in
    rw (d, last_word code limit input h) (holds_hold (edges code) (checks_in code) (word_of (last code limit input)) (last_holds code limit input s))

-- ---- the bits of a byte string that is long enough
pub received_word : (s : List ℕ) (t : ℕ) → 8 * length s ≤ t → word_of (span (bit_at s) 0 t) ≡ bit_at s
received_word s t h = span_whole (bit_at s) t (λ v k. bit_at_past s v (omega arith))

-- ---- a call to which the erasure passes give the word s leaves what the main passes make of it
module _ (code limit : ℕ) (input output working s : List ℕ) (e : answer_of code input output working ≡ 0)
    (begun : erasure_passes (punctured code) (edges code) (row_of code).punctured_bits limit (received code input) ≡ filled s 0) where
  abbrev after : End (List ℕ)
  after = passes (edges code) (checks_in code) limit s

  outcome_from : outcome code input output working limit
      ≡ left (ending after.success after.turns) (pack (word_of after.state) (row_of code).output_len) (replicate (bits_in code) 0)
  unfolding decoded decode_word
  outcome_from = is_accepted code input output working limit e ∙ rw (begun, add-zero after.turns)

  -- s itself with (true, 0), if it meets the equations and limit is at least 1
  pub ends_at_once : Meets code (word_of s) → 1 ≤ limit
      → outcome code input output working limit ≡ left (ending true 0) (pack (word_of s) (row_of code).output_len) (replicate (bits_in code) 0)
  ends_at_once meets h =
      let p = clean_pass (edges code) (checks_in code) s (hold_holds (edges code) (checks_in code) (word_of s) meets) in
      outcome_from ∙ rw (run_at_once (turn (edges code) (checks_in code)) limit s s h p)

-- no bit of a TC code is erased: the main passes begin with the word received
module _ (code : ℕ) (tc : TC code) (limit : ℕ) (input : List ℕ) where
  none_erased : erasure_passes (punctured code) (edges code) (row_of code).punctured_bits limit (received code input) ≡ filled (received code input) 0
  none_erased = sym (no_bits (punctured code) (edges code) (row_of code).punctured_bits limit (received code input) (tc_sent code tc))

  abbrev pub ended : End (List ℕ)
  ended = passes (edges code) (checks_in code) limit (received code input)

  pub outcome_is : (output working : List ℕ) → answer_of code input output working ≡ 0
      → outcome code input output working limit
      ≡ left (ending ended.success ended.turns) (pack (word_of ended.state) (row_of code).output_len) (replicate (bits_in code) 0)
  outcome_is output working e = outcome_from code limit input output working (received code input) e none_erased

  -- the bits of that output
  pub output_word : bit_at (pack (word_of ended.state) (row_of code).output_len) ≡ word_of ended.state
  output_word =
      packed_word ended.state (row_of code).output_len
      (passes_length (edges code) (checks_in code) limit (received code input) ∙ span_length (bit_at input) 0 (bits_in code) ∙ sym (roomy code (omega arith)).whole)
      (passes_bits (edges code) (checks_in code) limit (received code input) (received_bits input (bits_in code) refl))

-- a TC word that meets the equations comes back with (true, 0), where limit is at least 1
pub clean : (code : ℕ) (input output working : List ℕ) (limit : ℕ) → TC code → answer_of code input output working ≡ 0 → Bytes input
    → Meets code (bit_at input) → 1 ≤ limit → outcome code input output working limit ≡ left (ending true 0) input (replicate (bits_in code) 0)
clean code input output working limit tc e bytes meets h =
    let i = accepted_input code input output working limit e in
    let r = roomy code (omega arith) in
    let z = tc_sent code tc in
    let l : 8 * length input ≡ bits_in code = omega (arith, r.sent) in
    let o : (row_of code).output_len ≡ length input = omega (arith, r.whole) in
    let w : word_of (received code input) ≡ bit_at input = received_word input (bits_in code) (omega arith) in
    ends_at_once code limit input output working (received code input) e (none_erased code tc limit input) (subst (Meets code) (sym w) meets) h
    ∙ rw (o, w, pack_again input bytes)

-- with limit 0: (false, 0) and the input followed by zeros, whatever the input
pub limit_none : (code : ℕ) (input output working : List ℕ) → answer_of code input output working ≡ 0 → Bytes input
    → outcome code input output working 0 ≡ left (ending false 0) (input ++ replicate ((row_of code).output_len - length input) 0) (replicate (bits_in code) 0)
unfolding run
limit_none code input output working e bytes =
    let k = accepted_known code input output working 0 e in
    let i = accepted_input code input output working 0 e in
    let r = roomy code k in
    let f = sym (no_limit (punctured code) (edges code) (row_of code).punctured_bits 0 (received code input) refl) in
    let w : word_of (received code input) ≡ bit_at input = received_word input (bits_in code) (omega (arith, r.sent)) in
    outcome_from code 0 input output working (received code input) e f
    ∙ rw (w, pack_own input (row_of code).output_len bytes, span_padded input (row_of code).output_len (omega (arith, r.whole, r.sent)))
