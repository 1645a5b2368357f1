-- A word of TC128 that is no frame: both decoders say false after one pass, and a second pass changes what they leave. Assumes nothing.
use mathlib.Core.Bool.{Bool, true, false}
use mathlib.Core.List.{List, [], ◌∷◌, ◌++◌, append-nil, flat_map}
use mathlib.Core.Path.{◌≡◌, refl, sym, ap, ◌∙◌, fun_ext}
use Prim.Native.Nat.{ℕ, zero, suc, ◌+◌, ◌-◌, ◌%◌, ◌≤◌, ◌<◌, max}
use native.Mathlib.Nat.{add-zero, zero-add}
use native.Mathlib.Decide.{dec_lt}
use native.Mathlib.Omega.{arith}
use borrow.Author.Tests.{eq-eqb}
use lib.Dec.{eqb}
use lib.IntN.{ℤ, pos, negsuc}
use lib.ListN.{length, replicate}
use Rattle.maths.specs.Tests.{pick}
use Rattle.maths.specs.Lists.{span, fold, largest_of}
use Rattle.maths.specs.Bits.{bit_at}
use Rattle.maths.specs.Bytes.{pack}
use Rattle.maths.specs.Budget.{Turn, stop, go, End, end, run}
use Rattle.maths.proofs.Lists.{span_length}
use Rattle.maths.proofs.Slices.{span_get}
use Rattle.maths.proofs.Bytes.{bit_at_pack}
use Rattle.tables.specs.Tables.{prototypes, thetas, phis}
use Rattle.codes.specs.Codes.{rows, tables}
use Rattle.codes.specs.Blocks.{block_of, cell_blocks, row_blocks, last_rows}
use Rattle.codes.specs.Edges.{Edge, edge_at, block_edges, blocks_of, edges}
use Rattle.codes.specs.Equations.{par, word_of, Hold, Meets}
use Rattle.runs.specs.Meets.{holds}
use Rattle.runs.proofs.Flat.{edges_ranged}
use Rattle.runs.proofs.Parity.{holds_hold}
use Rattle.matrices.proofs.Edges.{par_below}
use Rattle.report.specs.Report.{ending, Told, told}
use Rattle.bit_flip.specs.Flip.{broken, score, top_score, flipped, turn, passes}
use Rattle.bit_flip.specs.Erasures.{erasure_passes}
use Rattle.bit_flip.specs.Outcome as flip
use Rattle.bit_flip.specs.Steps.{Bits}
use Rattle.bit_flip.proofs.Scores.{flipped_length, flipped_bits}
use Rattle.bit_flip.proofs.Calls.{received_bits}
use Rattle.min_sum.specs.Soft.{clamp, add, subtract, negate, magnitude, hard, same, less}
use Rattle.min_sum.specs.Confidence.{i8}
use Rattle.min_sum.specs.MinSum as soft
use Rattle.min_sum.specs.Hard.{to_hard, to_llrs}
use Rattle.min_sum.specs.Outcomes.{told_soft, decode_answer}
use Rattle.min_sum.proofs.Conversions.{llrs_length, llrs_bits}
use Rattle.min_sum.proofs.Marginals.{pass_length, first_hard}
use Rattle.min_sum.proofs.Packed.{hard_bit}
use Rattle.min_sum.proofs.Success.{accepted_is, steady}
use Rattle.agreement.specs.Ours.{HardBuffers, bit_flip, SoftBuffers, min_sum, min_summing}
use Rattle.agreement.specs.Examples.{zeros}

-- the word: eight ones, then zeros
abbrev pub spoilt : List ℕ
spoilt = 0xff ∷ zeros 15

-- the buffers of a call on TC128 that brings the bytes s, with that word in the output before
abbrev pub hard_lent : List ℕ → HardBuffers
hard_lent s = record { input = s; output = spoilt; working = zeros 128 }

abbrev pub soft_lent : List ℕ → SoftBuffers ℤ
soft_lent s = record { llrs = to_llrs (negsuc 99) (pos 100) s; output = spoilt; working = replicate 1280 (pos 0); signs = zeros 8 }

-- ---- a check whose sum is odd does not hold
odd_unmet : (es : List Edge) (m : ℕ) (w : ℕ → ℕ) (a : ℕ) → a < m → par es w a % 2 ≡ 1 → Hold es m w → ⊥
odd_unmet es m w a l e h = omega (arith, h a l)

unmet_false : (es : List Edge) (m : ℕ) (w : ℕ → ℕ) → (Hold es m w → ⊥) → holds es m w ≡ false
unmet_false es m w h = by (holds es m w) refl
  where
    by : (b : Bool) → holds es m w ≡ b → b ≡ false
    by true e = absurd (h (holds_hold es m w e))
    by false e = refl

-- of that word it is check 49
spoilt_odd : par (edges 0) (bit_at spoilt) 49 % 2 ≡ 1
unfolding rows tables prototypes thetas phis block_of cell_blocks row_blocks last_rows flat_map blocks_of edges block_edges edge_at span
spoilt_odd = refl

pub spoilt_unmet : Meets 0 (bit_at spoilt) → ⊥
unfolding rows
spoilt_unmet = odd_unmet (edges 0) 64 (bit_at spoilt) 49 (omega arith) spoilt_odd

-- ---- a run whose first turn goes on
module _ {S : Type 0} (turn : S → Turn S) {s t : S} (goes : turn s ≡ go t) where
  run_once : run turn 1 0 s ≡ end false 1 t
  unfolding run
  run_once = rw goes

  run_twice : {u : S} (b : Bool) → turn t ≡ pick b (stop u) (go u) → (run turn 2 0 s).state ≡ u
  unfolding run
  run_twice true e = rw (goes, e)
  run_twice false e = rw (goes, e)

-- ---- bit flipping: the largest of some numbers is one of them
largest_at : (f : ℕ → ℕ) (s n : ℕ) → (v : ℕ) × (v < suc n) × (f (s + v) ≡ largest_of (span f s (suc n)))
unfolding span largest_of
largest_at f s zero = (0, omega arith, rw (add-zero s) (omega arith))
largest_at f s (suc n) = by (largest_at f (suc s) n) (dec_lt (f s) rest)
  where
    rest : ℕ
    rest = largest_of (span f (suc s) (suc n))

    by : (v : ℕ) × (v < suc n) × (f (suc s + v) ≡ rest) → Dec (f s < rest) → (v : ℕ) × (v < suc (suc n)) × (f (s + v) ≡ max (f s) rest)
    by (v, l, e) (yes h) =
        let q : s + suc v ≡ suc s + v = omega arith in
        (suc v, omega arith, rw q (omega arith))
    by (v, l, e) (no h) = (0, omega arith, rw (add-zero s) (omega arith))

module _ (es : List Edge) (w : List ℕ) where
  flipped_at : (v : ℕ) → v < length w → word_of (flipped es w) v ≡ pick (eqb (score es w v) (top_score es w)) (1 - word_of w v) (word_of w v)
  unfolding flipped
  flipped_at v h = span_get _ 0 (length w) v h

  -- a bit with the largest score is flipped, so no word stays as it is
  flipped_moves : (n : ℕ) → length w ≡ suc n → Bits w → ((v : ℕ) → v < length w → word_of (flipped es w) v % 2 ≡ word_of w v % 2) → ⊥
  unfolding top_score
  flipped_moves n e bits same =
      let x = largest_at (score es w) 0 n in
      let v = x.0 in
      let l : v < length w = omega arith in
      let top : score es w v ≡ top_score es w = ap (score es w) (sym (zero-add v)) ∙ x.2 ∙ rw e in
      let moved : word_of (flipped es w) v ≡ 1 - word_of w v = flipped_at v l ∙ rw (eq-eqb (score es w v) (top_score es w) top) in
      omega (arith, same v l, bits v)

-- the bits of that word
abbrev word : List ℕ
word = flip.received 0 spoilt

word_long : length word ≡ 128
unfolding rows
word_long = span_length (bit_at spoilt) 0 128

word_odd : par (edges 0) (word_of word) 49 % 2 ≡ 1
unfolding rows tables prototypes thetas phis block_of cell_blocks row_blocks last_rows flat_map blocks_of edges block_edges edge_at span
word_odd = refl

word_unmet : Hold (edges 0) 64 (word_of word) → ⊥
word_unmet = odd_unmet (edges 0) 64 (word_of word) 49 (omega arith) word_odd

-- the bits of check 49 have the scores 5, 2, 3, 5, 3, 2, 3, 3: whatever the largest score is, an even number of them is flipped
odd_left : (p q r : Bool)
    → (pick p 0 1 + (pick q 1 0 + (pick r 1 0 + (pick p 1 0 + (pick r 1 0 + (pick q 1 0 + (pick r 1 0 + (pick r 1 0 + 0)))))))) % 2 ≡ 1
odd_left true true true = refl
odd_left true true false = refl
odd_left true false true = refl
odd_left true false false = refl
odd_left false true true = refl
odd_left false true false = refl
odd_left false false true = refl
odd_left false false false = refl

flipped_odd : (top : ℕ) → par (edges 0) (λ v. pick (eqb (score (edges 0) word v) top) (1 - word_of word v) (word_of word v)) 49 % 2 ≡ 1
unfolding rows tables prototypes thetas phis block_of cell_blocks row_blocks last_rows flat_map blocks_of edges block_edges edge_at span score broken
flipped_odd top = odd_left (eqb 5 top) (eqb 2 top) (eqb 3 top)

-- so check 49 stays broken
flipped_unmet : Hold (edges 0) 64 (word_of (flipped (edges 0) word)) → ⊥
unfolding rows
flipped_unmet =
    odd_unmet (edges 0) 64 (word_of (flipped (edges 0) word)) 49 (omega arith)
    (par_below 64 128 (edges 0) (edges_ranged 0 (omega arith)) _ _ (λ v h. ap (λ (x : ℕ). x % 2) (flipped_at (edges 0) word v (rw word_long h))) 49
    ∙ flipped_odd (top_score (edges 0) word))

-- a pass over a word that breaks an equation flips
goes : (w : List ℕ) → (Hold (edges 0) 64 (word_of w) → ⊥) → turn (edges 0) 64 w ≡ go (flipped (edges 0) w)
unfolding turn
goes w h = rw (unmet_false (edges 0) 64 (word_of w) h)

-- what the passes of a call leave
abbrev flips : ℕ → End (List ℕ)
flips limit = passes (edges 0) 64 limit word

flip_says : (limit : ℕ) → (bit_flip 0 (hard_lent spoilt) limit).report.success ≡ (flips limit).success
unfolding flip.outcome flip.decoded flip.decode_word erasure_passes rows
flip_says limit = refl

flip_leaves : (limit : ℕ) → (bit_flip 0 (hard_lent spoilt) limit).output ≡ pack (word_of (flips limit).state) 16
unfolding flip.outcome flip.decoded flip.decode_word erasure_passes rows
flip_leaves limit = refl

pub flip_misses : (bit_flip 0 (hard_lent spoilt) 1).report.success ≡ false
flip_misses = flip_says 1 ∙ ap (λ (x : End (List ℕ)). x.success) (run_once (turn (edges 0) 64) (goes word word_unmet))

pub flip_moves : (bit_flip 0 (hard_lent spoilt) 1).output ≡ (bit_flip 0 (hard_lent spoilt) 2).output → ⊥
flip_moves same =
    let u = flipped (edges 0) word in
    let one : (flips 1).state ≡ u = ap (λ (x : End (List ℕ)). x.state) (run_once (turn (edges 0) 64) (goes word word_unmet)) in
    let two : (flips 2).state ≡ flipped (edges 0) u = run_twice (turn (edges 0) 64) (goes word word_unmet) false (goes u flipped_unmet) in
    let e : pack (word_of u) 16 ≡ pack (word_of (flipped (edges 0) u)) 16 =
    ap (λ (w : List ℕ). pack (word_of w) 16) (sym one) ∙ sym (flip_leaves 1) ∙ same ∙ flip_leaves 2 ∙ ap (λ (w : List ℕ). pack (word_of w) 16) two in
    let long : length u ≡ 128 = flipped_length (edges 0) word ∙ word_long in
    flipped_moves (edges 0) u 127 long (flipped_bits (edges 0) word (received_bits spoilt _ refl))
    (λ v h. sym (bit_at_pack (word_of (flipped (edges 0) u)) 16 v (omega arith)) ∙ ap (λ (s : List ℕ). bit_at s v) (sym e) ∙ bit_at_pack (word_of u) 16 v (omega arith))

-- ---- min-sum: its LLRs, the messages before a pass and after, and the run
abbrev pub llrs : List ℤ
llrs = (soft_lent spoilt).llrs

abbrev pub begun : soft.Messages ℤ
begun = soft.start i8 (edges 0) 64 0 llrs

abbrev pub next : soft.Messages ℤ → soft.Messages ℤ
next = soft.pass i8 (edges 0) 64 0 llrs

abbrev ran : ℕ → End (soft.Messages ℤ)
ran limit = run (soft.turn i8 (edges 0) 64 0 llrs) limit 0 begun

-- the LLRs have the bits of the word; a first pass leaves these, the second another bit 0
pub given_bits : (v : ℕ) → soft.hard_bits i8 (llrs ++ []) v ≡ bit_at spoilt v
unfolding hard
given_bits v = ap (λ (xs : List ℤ). soft.hard_bits i8 xs v) (append-nil llrs) ∙ llrs_bits i8 (negsuc 99) (pos 100) refl refl refl spoilt v

pub first_bits : soft.hard_bits i8 (next begun).marginals ≡ bit_at spoilt
first_bits = fun_ext (λ v. ap (λ (b : Bool). pick b 1 0) (first_hard i8 (steady 127) (edges 0) 64 0 llrs (λ i. tt) v) ∙ given_bits v)

second_bit : soft.hard_bits i8 (next (next begun)).marginals 0 ≡ 0
unfolding rows tables prototypes thetas phis block_of cell_blocks row_blocks last_rows flat_map blocks_of edges block_edges edge_at span fold clamp add subtract negate magnitude hard same less soft.numbered soft.add_message soft.take_message soft.restarted soft.renewed soft.start soft.pass to_llrs
second_bit = refl

-- a run of passes, whichever they are, whose first leaves the bits of the word
module _ (step : soft.Messages ℤ → soft.Messages ℤ) (first : soft.hard_bits i8 (step begun).marginals ≡ bit_at spoilt) where
  abbrev step_turn : soft.Messages ℤ → Turn (soft.Messages ℤ)
  step_turn s = pick (soft.met i8 (edges 0) 64 0 llrs (step s)) (stop (step s)) (go (step s))

  goes_on : step_turn begun ≡ go (step begun)
  unfolding soft.met rows
  goes_on = rw (first, unmet_false (edges 0) 64 (bit_at spoilt) spoilt_unmet)

  pub two_passes : (run step_turn 2 0 begun).state ≡ step (step begun)
  two_passes = run_twice step_turn goes_on (soft.met i8 (edges 0) 64 0 llrs (step (step begun))) refl

soft_goes : soft.turn i8 (edges 0) 64 0 llrs begun ≡ go (next begun)
unfolding soft.turn
soft_goes = goes_on next first_bits

pub soft_accepted : (s : List ℕ) → length s ≡ 16 → (limit : ℕ) → limit ≤ 2 → (min_summing i8).answer 0 (soft_lent s) limit ≡ 0
unfolding decode_answer rows
soft_accepted s e limit few = rw (llrs_length i8 (negsuc 99) (pos 100) s, e)

soft_is : (limit : ℕ) → limit ≤ 2 → min_sum i8 0 (soft_lent spoilt) limit ≡ told (ending (ran limit).success (ran limit).turns) (to_hard i8 (ran limit).state.marginals)
unfolding rows
soft_is limit few =
    ap told_soft
    (accepted_is i8 0 llrs spoilt (replicate 1280 (pos 0)) (zeros 8) limit (soft_accepted spoilt refl limit few))

pub soft_misses : (min_sum i8 0 (soft_lent spoilt) 1).report.success ≡ false
soft_misses = ap (λ (x : Told). x.report.success) (soft_is 1 (omega arith)) ∙ ap (λ (x : End (soft.Messages ℤ)). x.success) (run_once (soft.turn i8 (edges 0) 64 0 llrs) soft_goes)

-- a bit of an output is that of its marginals
pub llrs_long : length llrs ≡ 128
llrs_long = llrs_length i8 (negsuc 99) (pos 100) spoilt

pub output_bit : (xs : List ℤ) → length xs ≡ 128 → (v : ℕ) → v < 128 → bit_at (to_hard i8 xs) v ≡ soft.hard_bits i8 xs v
output_bit xs e v h = hard_bit i8 xs _ v (rw e h)

pub next_output : (s : soft.Messages ℤ) (v : ℕ) → v < 128 → bit_at (to_hard i8 (next s).marginals) v ≡ soft.hard_bits i8 (next s).marginals v
next_output s = output_bit (next s).marginals (omega (arith, pass_length i8 (edges 0) 64 0 llrs s, llrs_long))

pub soft_moves : (min_sum i8 0 (soft_lent spoilt) 1).output ≡ (min_sum i8 0 (soft_lent spoilt) 2).output → ⊥
unfolding soft.turn
soft_moves same =
    let one : (ran 1).state ≡ next begun = ap (λ (x : End (soft.Messages ℤ)). x.state) (run_once (soft.turn i8 (edges 0) 64 0 llrs) soft_goes) in
    let two : (ran 2).state ≡ next (next begun) = two_passes next first_bits in
    let e : to_hard i8 (next begun).marginals ≡ to_hard i8 (next (next begun)).marginals =
    ap (λ (s : soft.Messages ℤ). to_hard i8 s.marginals) (sym one) ∙ sym (ap (λ (x : Told). x.output) (soft_is 1 (omega arith))) ∙ same
    ∙ ap (λ (x : Told). x.output) (soft_is 2 (omega arith)) ∙ ap (λ (s : soft.Messages ℤ). to_hard i8 s.marginals) two in
    let z : ◌≡◌ {A = ℕ} 1 0 =
    sym (ap (λ (f : ℕ → ℕ). f 0) first_bits) ∙ sym (next_output begun 0 (omega arith)) ∙ ap (λ (s : List ℕ). bit_at s 0) e ∙ next_output (next begun) 0 (omega arith) ∙ second_bit in
    omega arith
