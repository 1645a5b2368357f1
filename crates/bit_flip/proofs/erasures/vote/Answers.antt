use Rattle.bit_flip.proofs.Votes.{vote_by}
use Rattle.bit_flip.proofs.erasures.vote.Goals as goal

pub returns : goal.returns
returns c = λ erased w mark.
    vote_by erased c.args.runs.now w c.args.bits.now c.cast_votes.new.checks _ _ _ _ _ c.settle_bytes.ensures (rw c.runs.view_is at c.give_runs.ensures)
    (rw c.runs.view_is at c.cast_votes.ensures) c.cast_votes.auto.checks (rw c.runs.view_is at c.runs.invariant) mark
