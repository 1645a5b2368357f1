use Rattle.std.proofs.Common.{append-nil, append_assoc, add-one, arith, length-append, sym}
use Rattle.runs.specs.Runs.{quarters}
use Rattle.runs.proofs.Counts.{quarters_few}
use Rattle.runs.proofs.Runs.push_quarters.Goals as goal

pub loop-j-init : goal.loop-j-init
unfolding quarters
loop-j-init c = sym (append-nil c.args.self.now)

pub push_quarter-requires : goal.push_quarter-requires
push_quarter-requires c =
    let f = c.requires in
    let b = c.args.block in
    let m = c.args.matrix.now in
    let few = quarters_few b.size m.theta.now m.phi.now c.args.value b.check.0 b.bit.0 c.loop-j.j in
    let long = length-append c.args.self.now (quarters b.size m.theta.now m.phi.now c.args.value b.check.0 b.bit.0 c.loop-j.j) in
    record {
      sized = f.sized;
      free = rw c.loop-j.invariant (omega (arith, long, few, f.free));
      check_low = f.check_low;
      bit_low = f.bit_low;
      value_low = f.small;
      j_low = omega arith;
    }

pub loop-j-preserved : goal.loop-j-preserved
unfolding quarters
loop-j-preserved c = rw (c.push_quarter.ensures, c.loop-j.invariant, add-one) (append_assoc c.args.self.now _ _)
