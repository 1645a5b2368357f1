use mathlib.Core.Path.{◌∙◌, ap}
use mathlib.Core.List.{List}
use Prim.Native.Nat.{ℕ, ◌+◌}
use borrow.Author.Tests.{lt-ltb, le-ltb}
use Rattle.codes.specs.Blocks.{head_of, blocks_from}
use Rattle.codes.specs.Walk.{start_at, next_of}
use Rattle.codes.proofs.parity_iter.ParityIter.moved.Goals as goal

pub returns-then-self-m : goal.returns-then-self-m
unfolding next_of
returns-then-self-m c = simp (lt-ltb _ _ (rw c.requires.1 at c.if-self-m.true))

pub returns-else-self-m : goal.returns-else-self-m
unfolding next_of
returns-else-self-m c = let w = c.args.self in
    simp (le-ltb _ _ (rw c.requires.1 at c.if-self-m.false))
    (c.start_at.ensures
    ∙ ap (start_at _)
    (c.block_from.ensures
    ∙ ap (λ (H : List (List (List ℕ))). head_of (blocks_from H w.row w.col (w.layer + 1))) c.prototype_of-h.ensures))
