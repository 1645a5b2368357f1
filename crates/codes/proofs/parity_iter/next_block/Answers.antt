use borrow.Author.Tests.{lt-ltb, le-ltb}
use Rattle.codes.proofs.parity_iter.next_block.Goals.{
  then-p-ge4-via-then-p-ge4,
  then-p-ge4-via-else-p-ge4+then-p-ge11,
  then-p-ge4-via-else-p-ge4+else-p-ge11+then-p-ge3,
}
use Rattle.codes.proofs.parity_iter.next_block.Goals as goal

pub returns-then-p-ge4 : goal.returns-then-p-ge4
returns-then-p-ge4 c =
    elim c.then-p-ge4.branch [
      | then-p-ge4-via-then-p-ge4 w ↦ rw (le-ltb _ _ w.if-p-ge4.true)
      | then-p-ge4-via-else-p-ge4+then-p-ge11 w ↦ rw (lt-ltb _ _ w.if-p-ge4.false, le-ltb _ _ w.if-p-ge11.true)
      | then-p-ge4-via-else-p-ge4+else-p-ge11+then-p-ge3 w ↦
          rw (lt-ltb _ _ w.if-p-ge4.false, lt-ltb _ _ w.if-p-ge11.false, le-ltb _ _ w.if-p-ge3.true)
    ]

pub returns : goal.returns
returns c = rw (lt-ltb _ _ c.if-p-ge4.false, lt-ltb _ _ c.if-p-ge11.false, lt-ltb _ _ c.if-p-ge3.false) c.block_from.ensures
