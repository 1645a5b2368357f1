use Rattle.std.proofs.Common.{sym, ◌∙◌}
use lib.Pointwise.{bytes_decides}
use Rattle.replay.proofs.Encoding.{ok_answer, again_told}
use Rattle.replay.proofs.operations.encoders.Goals as goal
use Rattle.replay.proofs.operations.encoders.Goals.{then-is_ok, else-is_ok, then-eq, else-eq}

pub returns-then-is_ok-2 : goal.returns-then-is_ok-2
returns-then-is_ok-2 c =
    elim c.if-eq.branch [
      | then-eq w ↦
          elim c.if-is_ok.branch [
            | then-is_ok v ↦
                rw w.word-is
                (again_told c.args.c.code c.args.«data».now c.args.word.now c.args.want.now c.copy_encode.ensures (ok_answer _ (sym c.is_ok.ensures.value ∙ v.if-is_ok.true)) w.encode.ensures
                (rw (c.eq-then-is_ok-2.ensures, w.word-is) (bytes_decides _ _)))
            | else-is_ok v ↦ cc
          ]
      | else-eq w ↦ cc
    ]
