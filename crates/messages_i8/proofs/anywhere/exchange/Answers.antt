use Rattle.std.proofs.Common.{sym, ◌∙◌}
use Rattle.min_sum.specs.Confidence.{i8}
use Rattle.min_sum.proofs.Anywhere.{ready_room, ready_rest, exchanged_by, exchanged_not}
use Rattle.messages_i8.proofs.anywhere.exchange.Goals as goal

pub returns-then-not-is_ready : goal.returns-then-not-is_ready
returns-then-not-is_ready c =
    exchanged_not i8 c.args.at c.args.runs.now c.args.w.now c.args.marks.now (sym c.is_ready.ensures ∙ c.if-not-is_ready.true)

pub over_runs-requires-clause-room : goal.over_runs-requires-clause-room
over_runs-requires-clause-room c = ready_room c.args.at _ _ c.args.runs.now (sym c.is_ready.ensures ∙ c.if-not-is_ready.false)

pub over_runs-requires-clause-rest : goal.over_runs-requires-clause-rest
over_runs-requires-clause-rest c = ready_rest c.args.at _ _ c.args.runs.now (sym c.is_ready.ensures ∙ c.if-not-is_ready.false)

pub take_all-requires-clause-room : goal.take_all-requires-clause-room
take_all-requires-clause-room c =
    rw (c.over_runs.auto.w, c.over_runs.auto.marks) (ready_room c.args.at _ _ c.args.runs.now (sym c.is_ready.ensures ∙ c.if-not-is_ready.false))

pub take_all-requires-clause-rest : goal.take_all-requires-clause-rest
take_all-requires-clause-rest c = ready_rest c.args.at _ _ c.args.runs.now (sym c.is_ready.ensures ∙ c.if-not-is_ready.false)

pub returns : goal.returns
returns c =
    exchanged_by i8 c.args.at c.args.runs.now c.args.w.now c.args.marks.now _ _ _ c.take_all.ensures c.over_runs.ensures
    (sym c.is_ready.ensures ∙ c.if-not-is_ready.false)
