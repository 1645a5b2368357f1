-- Bytes: a TC frame that arrives with one bit flipped, each bit with a confidence of one size, is returned by min-sum. Assumes nothing.
--     one_put_right    with success at iteration 1; one_seen_late with a limit of 1
--     llrs_one_size    what `hard_to_llrs` makes is of one size
use mathlib.Core.Bool.{Bool, true, false}
use mathlib.Core.List.{List}
use mathlib.Core.Path.{◌≡◌, refl, sym, ap, ◌∙◌, fun_ext}
use Prim.Native.Nat.{ℕ, suc, ◌+◌, ◌*◌, ◌/◌, ◌%◌, ◌≤◌, ◌<◌}
use native.Mathlib.Decide.{dec_lt}
use native.Mathlib.Omega.{arith}
use lib.Dec.{eqb}
use lib.IntN.{ℤ, pos, negsuc}
use lib.ListN.{length, get_or, replicate, get_or-eq_default}
use Rattle.maths.specs.Tests.{pick}
use Rattle.maths.specs.Bits.{bit_at}
use Rattle.maths.specs.Bytes.{Bytes}
use Rattle.maths.specs.Ones.{delta}
use Rattle.maths.specs.Distance.{distance}
use Rattle.maths.specs.Budget.{End, end}
use Rattle.maths.proofs.Lists.{span_length}
use Rattle.maths.proofs.Slices.{span_get}
use Rattle.maths.proofs.Bytes.{bit_at_past, pack_again}
use Rattle.codes.specs.Codes.{Known, TC, row_of, bits_in, checks_in}
use Rattle.codes.specs.Edges.{edges}
use Rattle.codes.specs.Equations.{word_of, Meets}
use Rattle.codes.proofs.Codes.{tc_sent}
use Rattle.report.specs.Report.{ending}
use Rattle.two_flips.specs.Words.{plus, one_at}
use Rattle.two_flips.proofs.Added.{plus_at}
use Rattle.two_flips.proofs.Frames.{whole_frame, word, word_is, word_long, word_bits, word_good, one_error}
use Rattle.min_sum.specs.Soft.{hard}
use Rattle.min_sum.specs.Confidence.{Confidence, whole}
use Rattle.min_sum.specs.MinSum.{Messages, hard_bits, start, pass, decoded}
use Rattle.min_sum.specs.Hard.{to_hard, to_llrs}
use Rattle.min_sum.specs.Outcomes.{left, decode_answer, finished_as, decode_outcome}
use Rattle.min_sum.proofs.Answers.{decode_lent}
use Rattle.min_sum.proofs.Marginals.{pass_length}
use Rattle.min_sum.proofs.Packed.{hard_bit}
use Rattle.min_sum.proofs.Success.{sized_state, accepted_is}
use Rattle.soft_flip.specs.OneSize.{level, OneSize}
use Rattle.soft_flip.proofs.Levels.{level_hard}
use Rattle.soft_flip.proofs.Second.{first_bits}
use Rattle.soft_flip.proofs.Right.{Input}
use Rattle.soft_flip.proofs.Theorems.{soft_one, soft_late}

-- "hard_to_llrs gives -1 for a 1 bit and +1 for a 0 bit"
pub llrs_one_size : (k : ℕ) (t : List ℕ) → OneSize k (to_llrs (negsuc k) (pos (suc k)) t)
unfolding to_llrs
llrs_one_size k t i h =
    let f : ℕ → ℤ = λ i. pick (eqb (bit_at t i) 1) (negsuc k) (pos (suc k)) in
    (eqb (bit_at t i) 1, span_get f (pos 0) (8 * length t) i (rw (span_length f 0 (8 * length t)) at h) ∙ go (eqb (bit_at t i) 1))
  where
    go : (b : Bool) → pick b (negsuc k) (pos (suc k)) ≡ level k b
    go true = refl
    go false = refl

bit_test_lem : (b : Bool) → eqb (pick b 1 0) 1 ≡ b
bit_test_lem true = refl
bit_test_lem false = refl

module _ (code : ℕ) (tc : TC code) (s : List ℕ) (bytes : Bytes s) (long : length s ≡ (row_of code).n / 8) (good : Meets code (bit_at s))
    (top k : ℕ) (fits : suc k ≤ top) (llrs : List ℤ) (size : OneSize k llrs) (output : List ℕ) (working : List ℤ) (signs : List ℕ)
    (accepted : decode_answer code (length llrs) (length output) (length working) (length signs) ≡ 0) (one : distance s (to_hard (whole top) llrs) ≡ 1) where
  abbrev known_code : Known code
  known_code = omega arith

  abbrev o : Confidence ℤ
  o = whole top

  llrs_sent : length llrs ≡ (row_of code).n
  llrs_sent = (decode_lent code (length llrs) (length output) (length working) (length signs) accepted).llrs_long

  llrs_long : length llrs ≡ bits_in code
  llrs_long = omega (arith, llrs_sent, tc_sent code tc)

  abbrev frame : List ℕ
  frame = word code tc s bytes long good

  frame_is : word_of frame ≡ bit_at s
  frame_is = word_is code tc s bytes long good

  frame_long : length frame ≡ bits_in code
  frame_long = word_long code tc s bytes long good

  all_bits : 8 * length s ≡ bits_in code
  all_bits = whole_frame code tc s bytes long good

  -- the bit that is flipped
  abbrev wrong : (x : ℕ) × (x < bits_in code) × ((v : ℕ) → v < 8 * length s → bit_at (to_hard o llrs) v ≡ (bit_at s v + delta x v) % 2)
  wrong = one_error code tc s bytes long good (to_hard o llrs) one

  -- the word received, by its hard bits
  given : (i : ℕ) → i < bits_in code → get_or llrs i (pos 0) ≡ level k (eqb (word_of (plus frame (one_at (bits_in code) wrong.0)) i) 1)
  given i h =
      let x = wrong.0 in
      let z = size i (omega (arith, llrs_long)) in
      let is_hard : hard_bits o llrs i ≡ pick z.0 1 0 = ap (λ (y : ℤ). pick (hard y) 1 0) z.1 ∙ ap (λ (b : Bool). pick b 1 0) (level_hard k z.0) in
      let at : word_of (plus frame (one_at (bits_in code) x)) i ≡ pick z.0 1 0 =
      plus_at frame (one_at (bits_in code) x) (span_length (delta x) 0 (bits_in code) ∙ sym frame_long) i
      ∙ omega (
        arith,
        ap (λ (f : ℕ → ℕ). f i) frame_is,
        span_get (delta x) 0 (bits_in code) i h,
        wrong.2 i (omega (arith, all_bits)),
        hard_bit o llrs (length llrs / 8) i (omega (arith, llrs_long, all_bits)),
        is_hard,
      ) in
      z.1 ∙ ap (level k) (sym (ap (λ (b : ℕ). eqb b 1) at ∙ bit_test_lem z.0))

  input : Input (edges code) (checks_in code) (bits_in code) k wrong.0 frame llrs
  input =
      record {
        bits = word_bits code tc s bytes long good;
        long = frame_long;
        good = word_good code tc s bytes long good;
        llrs_long = llrs_long;
        given = given;
      }

  -- ---- a limit of 2 or more
  module _ (limit : ℕ) (enough : 2 ≤ limit) where
    ran : (q : Messages ℤ) × (decoded o code llrs limit ≡ end true 1 q) × ((i : ℕ) → i < bits_in code → hard_bits o q.marginals i ≡ word_of frame i)
    ran =
        soft_one code tc top k fits wrong.0 wrong.1 frame llrs input limit enough

    state_long : length ran.0.marginals ≡ bits_in code
    state_long = sym (ap (λ (e : End (Messages ℤ)). length e.state.marginals) ran.1) ∙ sized_state o code llrs limit known_code llrs_sent

    state_bits : (i : ℕ) → hard_bits o ran.0.marginals i ≡ bit_at s i
    unfolding hard
    state_bits i = go (dec_lt i (bits_in code))
      where
        go : Dec (i < bits_in code) → hard_bits o ran.0.marginals i ≡ bit_at s i
        go (yes h) = ran.2 i h ∙ ap (λ (f : ℕ → ℕ). f i) frame_is
        go (no h) =
            let l : length ran.0.marginals ≤ i = omega (arith, state_long) in
            rw (get_or-eq_default ran.0.marginals (pos 0) {n = i} l) (sym (bit_at_past s i (omega (arith, all_bits))))

    packed : to_hard o ran.0.marginals ≡ s
    packed =
        let e : length ran.0.marginals / 8 ≡ length s = omega (arith, state_long, all_bits) in
        rw (e, fun_ext state_bits) (pack_again s bytes)

    pub one_put_right : decode_outcome o code llrs output working signs limit ≡ left (ending true 1) s (replicate (length working) (pos 0)) (replicate (length signs) 0)
    one_put_right =
        accepted_is o code llrs output working signs limit accepted
        ∙ ap (λ (e : End (Messages ℤ)). finished_as o e (length working) (length signs)) ran.1
        ∙ ap (λ (out : List ℕ). left (ending true 1) out (replicate (length working) (pos 0)) (replicate (length signs) 0)) packed

  -- ---- a limit of 1: what was received, and no success
  first : List ℤ
  first = (pass o (edges code) (checks_in code) 0 llrs (start o (edges code) (checks_in code) 0 llrs)).marginals

  first_same : to_hard o first ≡ to_hard o llrs
  unfolding first
  first_same =
      let e : length first ≡ length llrs = pass_length o (edges code) (checks_in code) 0 llrs (start o (edges code) (checks_in code) 0 llrs) ∙ omega arith in
      rw (e, fun_ext (first_bits top (edges code) (checks_in code) llrs))

  pub one_seen_late : decode_outcome o code llrs output working signs 1
      ≡ left (ending false 1) (to_hard o llrs) (replicate (length working) (pos 0)) (replicate (length signs) 0)
  unfolding first
  one_seen_late =
      accepted_is o code llrs output working signs 1 accepted
      ∙ ap (λ (e : End (Messages ℤ)). finished_as o e (length working) (length signs))
      (soft_late code tc top k fits wrong.0 wrong.1 frame llrs input)
      ∙ ap (λ (out : List ℕ). left (ending false 1) out (replicate (length working) (pos 0)) (replicate (length signs) 0)) first_same
