use Rattle.std.proofs.Common.{[], get_or, length-set, refl, sym, ◌∙◌, arith}
use Rattle.std.proofs.lemmas.Grind.{common_steps}
use Rattle.sheet_values.proofs.Hex.{Pair, pair, pair_set, pairs_end}
use Rattle.sheet_values.proofs.put_bytes.Goals as goal
use Rattle.sheet_values.proofs.put_bytes.Goals.{After-value_of}

-- the pair that is read in this turn
this : (c : After-value_of) → Pair c.args.digits.now (get_or c.as_chunks.result.0.now c.loop-j.j []) c.loop-j.j
this c = pair _ _ _ c.requires.0 c.as_chunks.ensures.front c.as_chunks.ensures.front_len c.loop-j-test.true

pub unwrap-requires : goal.unwrap-requires
unwrap-requires c =
    let p = this (goal.at.unwrap-requires c).After-value_of in
    rw (c.value_of.ensures ∙ p.high_is.value) refl

pub overflow_mul-out : goal.overflow_mul-out
overflow_mul-out c =
    let p = this (goal.at.overflow_mul-out c).After-value_of in
    grind (arith, common_steps, p.high_is.value, p.high_is.low)

pub unwrap-requires-in-loop-j : goal.unwrap-requires-in-loop-j
unwrap-requires-in-loop-j c =
    let p = this (goal.at.unwrap-requires-in-loop-j c).After-value_of in
    rw (c.value_of-in-loop-j.ensures ∙ p.low_is.value) refl

pub overflow_add-out : goal.overflow_add-out
overflow_add-out c =
    let p = this (goal.at.overflow_add-out c).After-value_of in
    grind (arith, common_steps, p.high_is.value, p.high_is.low, p.low_is.value, p.low_is.low)

pub loop-j-preserved : goal.loop-j-preserved
loop-j-preserved c =
    let p = this (goal.at.loop-j-preserved c).After-value_of in
    record {
      long = length-set _ _ _ ∙ c.loop-j.invariant.long;
      rest = pair_set _ _ _ _ c.loop-j.invariant.rest _ p _ _ (sym c.value_of.ensures ∙ c.unwrap.ensures) (sym c.value_of-in-loop-j.ensures ∙ c.unwrap-in-loop-j.ensures);
    }

pub returns : goal.returns
returns c = pairs_end c.args.digits.now _ _ c.loop-j.j c.loop-j.invariant.rest (omega (arith, c.as_chunks.ensures.front_len)) c.requires.0
