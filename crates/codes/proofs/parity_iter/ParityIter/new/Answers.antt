use native.Mathlib.Omega.{arith}
use borrow.Author.Tests.{lt-ltb, le-ltb}
use Rattle.codes.specs.Walk.{new_of}
use Rattle.codes.specs.Edges.{blocks_of}
use Rattle.codes.proofs.Rows.{walk_unknown}
use Rattle.codes.proofs.parity_iter.ParityIter.new.Goals as goal

pub returns-then-code-ge-CODES : goal.returns-then-code-ge-CODES
returns-then-code-ge-CODES c = rw (walk_unknown c.args.code (le-ltb c.args.code 9 c.if-code-ge-CODES.true), c.start_at.ensures)

pub returns : goal.returns
unfolding new_of blocks_of
returns c = rw (lt-ltb c.args.code 9 (omega (arith, c.if-code-ge-CODES.false)), c.start_at-2.ensures, c.first_block.ensures, c.prototype_of-h.ensures)
