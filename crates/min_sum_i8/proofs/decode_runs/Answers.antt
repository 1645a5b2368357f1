use Rattle.std.proofs.Common.{◌≡◌, ℤ, List, pos, length, replicate, rules, ap, ◌∙◌, arith}
use Rattle.std.proofs.lemmas.Grind.{common_steps}
use Rattle.min_sum.specs.Confidence.{i8}
use Rattle.min_sum.specs.Hard.{packed}
use Rattle.min_sum.specs.Working.{parts_in}
use Rattle.min_sum.proofs.Fitting.{ready_by}
use Rattle.min_sum.proofs.Ran.{zeros_in, ran_by}
use Rattle.min_sum_i8.proofs.decode_runs.Goals as goal

pub unwrap-messages-requires : goal.unwrap-messages-requires
unwrap-messages-requires c =
    let e = ready_by c.args.at (length c.fill.new.self) (length c.args.marks.now) (length c.args.llrs.now) c.args.runs.now (omega (arith, c.fill.ensures.len, c.requires.sized.working)) (omega (arith, c.requires.sized.marks)) c.requires.ready in
    search (rules, rw e at c.new.ensures)

pub returns : goal.returns
returns c =
    let a = c.args in
    let n = length a.working.now in
    let f : c.fill.new.self ≡ replicate n (pos 0) = grind (arith, common_steps) in
    let w : c.fill-2.new.self ≡ replicate n (pos 0) = grind (arith, common_steps) in
    let e = ready_by c.args.at (length c.fill.new.self) (length c.args.marks.now) (length c.args.llrs.now) c.args.runs.now (omega (arith, c.fill.ensures.len, c.requires.sized.working)) (omega (arith, c.requires.sized.marks)) c.requires.ready in
    let given = rw e at c.new.ensures in
    let same : c.unwrap-messages.result ≡ parts_in a.at a.llrs.now a.runs.now c.fill.new.self a.marks.now = search (rules, given, c.unwrap-messages.ensures) in
    let made = same ∙ zeros_in i8 a.at a.runs.now a.llrs.now n _ _ f c.requires.sized.working c.requires.none in
    let out = c.pack.ensures ∙ ap (λ (m : List ℤ). packed i8 m a.output.now) c.marginals.ensures in
    ran_by i8 a.at a.runs.now a.llrs.now _ _ _ _ a.limit n _ _ _ c.run_passes-found.ensures.ran made c.run_passes-found.ensures.alike c.requires.ready out w c.requires.whole
