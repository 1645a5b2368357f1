use Rattle.std.proofs.Common.{Bool, ◌≡◌, true, false, refl, ◌∙◌}
use Rattle.report.specs.Report.{flag}
use Rattle.sheet_text.proofs.Digits.{printed_lines}
use Rattle.sheet_text.proofs.print.print.Goals as goal

pub returns : goal.returns
returns c =
    printed_lines _ _ c.args.r.success c.args.output.now c.new-text.ensures c.from.ensures c.number_line.ensures.text (c.from-2.ensures ∙ as_flag c.args.r.success)
    c.number_line-2.ensures.text c.number_line-3.ensures.text c.min.ensures c.hex_line.ensures
  where
    as_flag : (b : Bool) → mir.Val.bool_byte b ≡ flag b
    as_flag true = refl
    as_flag false = refl
