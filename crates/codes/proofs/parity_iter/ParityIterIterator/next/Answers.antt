use mathlib.Core.Path.{ap, sym}
use lib.ListN.{length}
use native.Mathlib.Omega.{arith}
use Rattle.std.specs.Prelude.{Some}
use Rattle.codes.specs.Walk.{edge_in, Steps}
use Rattle.codes.proofs.Codes.{sized}
use Rattle.codes.proofs.Walk.{product_low, standing, finished}
use Rattle.codes.proofs.Remaining.{stepped}
use Rattle.codes.proofs.parity_iter.ParityIterIterator.next.Goals.{After-moved}
use Rattle.codes.proofs.parity_iter.ParityIterIterator.next.Goals as goal

pub returns-in_err-m-clause-steps : goal.returns-in_err-m-clause-steps
returns-in_err-m-clause-steps c =
    let f = finished c.args.self.now c.in_err-m.ensures in
    rw c.from_residual.ensures (stepped _ _ _ (sym f.0) (sym f.1))

pub overflow_mul-edge : goal.overflow_mul-edge
overflow_mul-edge c =
    let s = standing c.args.self.now c.in_ok-m.ensures in
    let high = (sized _ s.inside.code_low).high in
    record { fits = omega (arith, product_low c.args.self.now.row c.in_ok-m.m (omega (arith, s.inside.row_low)) (rw s.size high)) }

pub overflow_add-edge : goal.overflow_add-edge
overflow_add-edge c =
    let s = standing c.args.self.now c.in_ok-m.ensures in
    let high = (sized _ s.inside.code_low).high in
    record { fits = omega (arith, product_low c.args.self.now.row c.in_ok-m.m (omega (arith, s.inside.row_low)) (rw s.size high), s.inside.i_low, high) }

pub overflow_mul-edge-2 : goal.overflow_mul-edge-2
overflow_mul-edge-2 c =
    let s = standing c.args.self.now c.in_ok-m.ensures in
    let high = (sized _ s.inside.code_low).high in
    record { fits = omega (arith, product_low c.args.self.now.col c.in_ok-m.m s.inside.col_low (rw s.size high)) }

pub overflow_add-edge-2 : goal.overflow_add-edge-2
overflow_add-edge-2 c =
    let s = standing c.args.self.now c.in_ok-m.ensures in
    let high = (sized _ s.inside.code_low).high in
    record { fits = omega (arith, product_low c.args.self.now.col c.in_ok-m.m s.inside.col_low (rw s.size high), s.low) }

pub moved-requires : goal.moved-requires
moved-requires c = let s = standing c.args.self.now c.in_ok-m.ensures in (s.inside, s.size)

-- what a step that finds an edge says
step : (c : After-moved) → Steps c.args.self.now (Some (edge_in c.args.self.now c.in_ok-m.x)) c.moved.result
step c =
    let s = standing c.args.self.now c.in_ok-m.ensures in
    stepped _ _ _ (sym s.steps) (rw (s.moves, c.moved.ensures))

pub returns-clause-steps : goal.returns-clause-steps
returns-clause-steps c = rw (standing c.args.self.now c.in_ok-m.ensures).size (step c)

pub returns-clause-goes : goal.returns-clause-goes
returns-clause-goes c =
    let e = ap length (step c).leaves in
    record { on = λ _. (tt, tt, omega (arith, e)); keeps = tt; rests = λ _. tt }
