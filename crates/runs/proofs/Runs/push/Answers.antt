use Rattle.std.proofs.Common.{length, ap, arith}
use Rattle.runs.specs.Padded.{padded_count}
use Rattle.runs.proofs.Padded.{padded_push}
use Rattle.runs.proofs.Runs.push.Goals as goal

pub invariant_of-self : goal.invariant_of-self
invariant_of-self c =
    let long = padded_count c.self.inside.count c.self.inside.list c.self.invariant in
    padded_push _ _ c.args.run c.self.invariant (omega (arith, long, ap length c.self.view_is, c.requires))
