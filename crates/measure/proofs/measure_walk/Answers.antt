use Rattle.std.proofs.Common.{◌≡◌, ℕ, Bool, true, false, List, [], ◌∷◌, sym, refl, ap, ◌∙◌, rules}
use Rattle.std.specs.Prelude.{Ok, Err}
use mathlib.Core.List.{flat_map}
use Rattle.maths.specs.Tests.{pick}
use Rattle.maths.specs.Lists.{fold}
use Rattle.codes.specs.declared.refusal.Refusal.{Refusal}
use Rattle.codes.specs.declared.refusal.Refusal.TheVariants.{UnknownCode}
use Rattle.codes.specs.declared.parity_iter.ParityIter.{ParityIter}
use Rattle.codes.specs.Codes.{known}
use Rattle.codes.specs.Edges.{Edge, blocks_of, edges}
use Rattle.codes.specs.Walk.{after, new_of, walk_at}
use Rattle.codes.proofs.Remaining.{begin}
use Rattle.measure.specs.Sum.{added, sum_of}
use Rattle.measure.proofs.measure_walk.Goals as goal

-- the edges left are one and the rest, or none
fold_next : (l : List Edge) (e : Edge) (rest : List Edge) (s : ℕ) {s' all : ℕ} → l ≡ e ∷ rest → fold added l s ≡ all → s' ≡ added e s → fold added rest s' ≡ all
unfolding fold
fold_next l e rest s p q r = rw r (rw p at q)

fold_last : (l : List Edge) (s : ℕ) {all : ℕ} → l ≡ [] → fold added l s ≡ all → s ≡ all
unfolding fold
fold_last l s p q = rw p at q

-- the walk of a code, and that an unknown one has no edges
begun_some : (code : ℕ) (b : Bool) {w : ParityIter} → Ok w ≡ pick b (Ok (new_of code)) (Err UnknownCode) → w ≡ new_of code
begun_some code true e = search (rules, e)
begun_some code false e = search (rules, e)

begun_none : (code : ℕ) {why : Refusal} → Err why ≡ walk_at code → 0 ≡ sum_of code
unfolding edges blocks_of flat_map fold
begun_none code e = go (known code) refl e
  where
    go : (b : Bool) {why : Refusal} → known code ≡ b → Err why ≡ pick b (Ok (new_of code)) (Err UnknownCode) → 0 ≡ sum_of code
    go true k e = search (rules, e)
    go false k e = rw k

pub loop-check-init : goal.loop-check-init
loop-check-init c =
    rw (c.into_iter-check-iterator.ensures.into_iter_gives, begun_some c.args.code (known c.args.code) c.in-Ok.ensures.found, begin)

pub loop-check-preserved : goal.loop-check-preserved
loop-check-preserved c =
    fold_next _ _ _ c.loop-check.sum (sym c.next.ensures.steps.leaves ∙ ap (λ r. after r c.next.new.self) c.in-Some.is) c.loop-check.invariant c.folded-sum.ensures

pub returns-in-None : goal.returns-in-None
returns-in-None c =
    fold_last _ c.loop-check.sum (sym c.next.ensures.steps.leaves ∙ ap (λ r. after r c.next.new.self) c.in-None.is) c.loop-check.invariant

pub returns-in_default : goal.returns-in_default
returns-in_default c = begun_none c.args.code (sym c.in_default.is ∙ c.iter_paritychecks.ensures.found)
