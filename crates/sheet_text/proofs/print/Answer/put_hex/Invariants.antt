use Rattle.std.proofs.Common.{◌≡◌, ◌++◌, drop}
use Rattle.sheet_values.specs.Spelling.{hex}
use Rattle.sheet_text.proofs.print.Answer.put_hex.Given as goal

-- what is written and what is left to be
abbrev pub invariant-loop-b : goal.invariant-loop-b
invariant-loop-b l = l.self ++ hex (drop l.b-index l.s) ≡ l.initial.self ++ hex l.s
