use borrow.Author.Tests.{eq-eqb}
use Rattle.codes.proofs.Rows.{row_given, answered}
use Rattle.labrador_ldpc.proofs.ldpc_params.Goals as goal

pub returns-then-to-eq10 : goal.returns-then-to-eq10
returns-then-to-eq10 c =
    let r = row_given c.args.code _ _ c.params-asked.ensures.found c.unwrap_or_default.ensures in
    rw (c.copy_from_slice.ensures.after, c.numbers.ensures, r, c.answer.ensures, c.params-asked.ensures.found, eq-eqb _ 10 c.if-to-eq10.true, answered c.args.code)
