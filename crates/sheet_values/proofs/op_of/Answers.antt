use Rattle.std.proofs.Common.{arith, ap, sym}
use Rattle.std.proofs.lemmas.Slice.Eq.{text_from_reads}
use Rattle.sheet_values.specs.Spelling.{ascii}
use Rattle.sheet_values.specs.Values.{op_of}
use Rattle.sheet_values.proofs.op_of.Goals as goal

pub returns-in-encode : goal.returns-in-encode
returns-in-encode c =
    let e = text_from_reads c.args.v.now (ascii "encode") (omega arith) (omega arith, (omega arith, (omega arith, (omega arith, (omega arith, (omega arith, tt)))))) in
    ap op_of (sym e)
