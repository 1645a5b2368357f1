-- Each generator row of a TM code can be completed to meet all equations: what the computed test says of one code. Assumes nothing.
use Prim.Native.Nat.{ℕ}
use lib.Dec.{T}
use Rattle.codes.specs.Codes.{TM}
use Rattle.codes.proofs.Codes.{tm_at}
use Rattle.matrices.proofs.RowTest.{rows_test}
use Rattle.telemetry.proofs.Tests.{filling, rows_complete, complete_all}

pub rows_complete_lem : (code : ℕ) → TM code → T (rows_test code (filling code))
rows_complete_lem = tm_at rows_complete complete_all
