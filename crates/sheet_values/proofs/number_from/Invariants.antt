use Rattle.std.proofs.Common.{◌≡◌, drop}
use Rattle.sheet_values.specs.Values.{number_from}
use Rattle.sheet_values.proofs.number_from.Given as goal

-- n is the number that the digits so far say
abbrev pub invariant-loop-b : goal.invariant-loop-b
invariant-loop-b l = number_from l.n (drop l.b-index l.v) ≡ number_from 0 l.v
