-- Min-sum meets the demands on a decoder, on any confidences; that it returns an unchanged frame asks that these are steady. Assumes nothing.
use mathlib.Core.Bool.{Bool, true, false}
use mathlib.Core.List.{List, ◌++◌, append-nil}
use mathlib.Core.Path.{◌≡◌, refl, sym, ap, ◌∙◌}
use Prim.Native.Nat.{ℕ, ◌*◌, ◌%◌}
use native.Mathlib.Decide.{ℕ_discrete}
use native.Mathlib.Omega.{arith}
use lib.Dec.{eqb}
use lib.ListN.{length, replicate}
use Rattle.maths.specs.Tests.{pick, Anything}
use Rattle.maths.proofs.Tests.{never}
use Rattle.maths.specs.Bits.{bit_at}
use Rattle.maths.specs.Bytes.{Bytes}
use Rattle.maths.specs.Budget.{End}
use Rattle.maths.proofs.Slices.{span_each}
use Rattle.maths.proofs.Bytes.{length_pack, bytes_pack}
use Rattle.codes.specs.Codes.{row_of, checks_in}
use Rattle.codes.specs.Edges.{edges}
use Rattle.codes.specs.Equations.{Meets}
use Rattle.matrices.proofs.Sizes.{tc_bits}
use Rattle.matrices.proofs.Edges.{meets_same}
use Rattle.report.specs.Report.{ending, Told}
use Rattle.min_sum.specs.Confidence.{Confidence, Steady, Within, whole}
use Rattle.min_sum.specs.MinSum.{Messages, hard_bits, start, pass, met, turn, decoded}
use Rattle.min_sum.specs.Hard.{to_hard, to_llrs}
use Rattle.min_sum.specs.Outcomes.{Outcome, told_soft, Written, to_llrs_outcome}
use Rattle.min_sum.specs.Layouts.{Lent}
use Rattle.min_sum.proofs.Answers.{decode_lent, decode_refused}
use Rattle.min_sum.proofs.Conversions.{llrs_hard}
use Rattle.codes.proofs.Codes.{roomy}
use Rattle.min_sum.proofs.Success.{sized_state, accepted_is, says_true, at_once, given_bit, steady}
use Rattle.agreement.specs.Parties.{ByMinSum}
use Rattle.agreement.specs.Demands.{DecodesByTable, SuccessMeets, FrameReturns, CountsPasses, DecodesAs}
use Rattle.agreement.specs.Ours.{SoftBuffers, min_sum, marginals_in, min_summing, in_set}
use Rattle.agreement.proofs.Sender.{sent_meets}
use Rattle.agreement.proofs.Counting.{run_counted}

module _ {C : Type 0} (o : Confidence C) where
  pub min_sum_table : DecodesByTable (min_summing o) (min_sum o)
  min_sum_table code b limit = by (ℕ_discrete ((min_summing o).answer code b limit) 0)
    where
      by : Dec ((min_summing o).answer code b limit ≡ 0) → (min_sum o code b limit).report.answer ≡ (min_summing o).answer code b limit
      by (yes h) = ap (λ (x : Outcome C). x.report.answer) (accepted_is o code b.llrs b.output b.working b.signs limit h) ∙ sym h
      by (no h) = ap (λ (x : Outcome C). x.report.answer) (sym (decode_refused o code b.llrs b.output b.working b.signs limit refl h))

  module _ (code : ℕ) (b : SoftBuffers C) (limit : ℕ) where
    -- the run of an accepted call
    abbrev ran : ℕ → End (Messages C)
    ran = decoded o code b.llrs

    module _ (h : (min_summing o).answer code b limit ≡ 0) where
      report_is : (min_sum o code b limit).report ≡ ending (ran limit).success (ran limit).turns
      report_is = ap (λ (x : Outcome C). x.report) (accepted_is o code b.llrs b.output b.working b.signs limit h)

      output_is : (min_sum o code b limit).output ≡ to_hard o (ran limit).state.marginals
      output_is = ap (λ (x : Outcome C). x.output) (accepted_is o code b.llrs b.output b.working b.signs limit h)

      lent : Lent code (length b.llrs) (length b.output) (length b.working)
      lent = decode_lent code (length b.llrs) (length b.output) (length b.working) (length b.signs) h

      -- the output is bytes, as many as the code has
      pub min_sum_bytes : Bytes (min_sum o code b limit).output
      min_sum_bytes = rw output_is (bytes_pack (hard_bits o (ran limit).state.marginals) _)

      pub min_sum_length : length (min_sum o code b limit).output ≡ (row_of code).output_len
      min_sum_length =
          rw output_is (length_pack (hard_bits o (ran limit).state.marginals) _
          ∙ rw (sized_state o code b.llrs limit lent.is_known lent.llrs_long) (omega (arith, (roomy code lent.is_known).whole)))

  pub min_sum_counts : CountsPasses (min_summing o) (min_sum o)
  unfolding turn met
  min_sum_counts code b limit h =
      let es = edges code in
      let m = checks_in code in
      let p = (row_of code).punctured_bits in
      run_counted code (marginals_in o code b.llrs) (turn o es m p b.llrs) (λ s. met o es m p b.llrs (pass o es m p b.llrs s)) (pass o es m p b.llrs)
      (pass o es m p b.llrs) (λ s. refl) (start o es m p b.llrs) (λ i. refl) limit (report_is code b limit h)

  pub min_sum_steps : DecodesAs (min_summing o) (min_sum o)
  min_sum_steps code b limit h =
      ap told_soft (accepted_is o code b.llrs b.output b.working b.signs limit h)

  -- a success was accepted
  pub min_sum_accepted : (code : ℕ) (b : SoftBuffers C) (limit : ℕ) → (min_sum o code b limit).report.success ≡ true → (min_summing o).answer code b limit ≡ 0
  min_sum_accepted code b limit e = by (ℕ_discrete ((min_summing o).answer code b limit) 0)
    where
      by : Dec ((min_summing o).answer code b limit ≡ 0) → (min_summing o).answer code b limit ≡ 0
      by (yes h) = h
      by (no h) = absurd (never (sym (ap (λ (x : Outcome C). x.report.success) (decode_refused o code b.llrs b.output b.working b.signs limit refl h))) e)

  pub min_sum_meets : SuccessMeets (min_summing o) (min_sum o)
  min_sum_meets code b limit e =
      let h = min_sum_accepted code b limit e in
      (says_true o code b.llrs b.output b.working b.signs limit h (omega (arith, (min_sum_counts code b limit h).within e))).0 e

  pub min_sum_returns : {In : C → Type 0} → Steady o In → FrameReturns (min_summing o) (min_sum o) (in_set o In)
  min_sum_returns st code b limit tc sent h within k =
      let none : (row_of code).punctured_bits ≡ 0 = omega (arith, tc_bits code tc) in
      let given : b.llrs ++ replicate (row_of code).punctured_bits o.zero ≡ b.llrs = rw none (append-nil b.llrs) in
      let bits = given_bit o code b.llrs b.output b.working b.signs limit h in
      let good : Meets code (hard_bits o b.llrs) =
      meets_same code (omega arith) (bit_at (to_hard o b.llrs)) (hard_bits o b.llrs) (λ v l. ap (λ (x : ℕ). x % 2) ((rw given at bits) v l)) (sent_meets sent tc) in
      let e = at_once o code b.llrs b.output b.working b.signs limit h st within k (rw given good) in
      ap told_soft e ∙ rw given

-- whole numbers are steady: of every call
pub whole_returns : (top : ℕ) → FrameReturns (min_summing (whole top)) (min_sum (whole top)) Anything
whole_returns top code b limit tc sent h any = min_sum_returns (whole top) (steady top) code b limit tc sent h (λ i. tt)

-- ---- an accepted call: what it was lent, and what it told
module _ {C : Type 0} {o : Confidence C} {minus plus : C} {code : ℕ} {received : List ℕ} {limit : ℕ} {x : Told} (c : ByMinSum o minus plus code received limit x) where
  abbrev pub summing_lent : SoftBuffers C
  summing_lent = record { llrs = c.llrs; output = c.old; working = c.working; signs = c.signs }

  pub summing_accepted : (min_summing o).answer code summing_lent limit ≡ 0
  summing_accepted = sym (min_sum_table o code summing_lent limit) ∙ sym (ap (λ (y : Outcome C). y.report.answer) c.promise) ∙ c.accepted

  pub summing_told : x ≡ min_sum o code summing_lent limit
  summing_told = ap told_soft c.promise

  -- the LLRs that it was fed with: they are in the set of minus and plus, and their hard bits are what was received
  pub summing_llrs : c.llrs ≡ to_llrs minus plus received
  unfolding to_llrs_outcome
  summing_llrs =
      let t = sym (ap (λ (y : Written C). y.answer) c.converted) ∙ c.answered in
      ap (λ (y : Written C). y.buffer) c.converted ∙ rw t

  pub summing_in : {In : C → Type 0} → Steady o In → In minus → In plus → Within o In c.llrs
  unfolding to_llrs
  summing_in {In} st m p = rw summing_llrs (span_each In _ o.zero (8 * length received) (λ v. in_set_lem (eqb (bit_at received v) 1)) st.zero_in)
    where
      in_set_lem : (b : Bool) → In (pick b minus plus)
      in_set_lem true = m
      in_set_lem false = p

  pub summing_hard : o.hard minus ≡ true → o.hard plus ≡ false → o.hard o.zero ≡ false → to_hard o c.llrs ≡ received
  summing_hard m p z = rw summing_llrs (llrs_hard o minus plus m p z received c.bytes)
