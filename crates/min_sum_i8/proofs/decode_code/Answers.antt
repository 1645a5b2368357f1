use Rattle.std.proofs.Common.{◌∙◌}
use Rattle.min_sum.specs.Confidence.{i8}
use Rattle.min_sum.proofs.Ran.{decode_sized, decode_ready, decode_whole, decode_done}
use Rattle.min_sum_i8.proofs.decode_code.Goals as goal

pub decode_runs-requires-clause-sized : goal.decode_runs-requires-clause-sized
decode_runs-requires-clause-sized c = decode_sized c.requires.lent c.requires.laid _ c.requires.none

pub decode_runs-requires-clause-ready : goal.decode_runs-requires-clause-ready
decode_runs-requires-clause-ready c = decode_ready c.requires.lent c.requires.laid (c.as_slice.ensures ∙ c.runs_of-runs.ensures)

pub decode_runs-requires-clause-whole : goal.decode_runs-requires-clause-whole
decode_runs-requires-clause-whole c = decode_whole c.requires.lent c.requires.laid

pub returns : goal.returns
returns c = decode_done i8 c.args.code c.args.llrs.now _ _ c.args.limit _ _ _ c.decode_runs.ensures c.requires.laid (c.as_slice.ensures ∙ c.runs_of-runs.ensures) c.requires.lent
