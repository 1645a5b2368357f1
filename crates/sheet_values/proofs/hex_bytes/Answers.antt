use Rattle.std.proofs.Common.{sym, ◌∙◌, arith}
use Rattle.sheet_values.proofs.Hex.{hex_parts}
use Rattle.sheet_values.proofs.hex_bytes.Goals as goal

pub put_bytes-requires : goal.put_bytes-requires
put_bytes-requires c =
    let e = sym c.is_hex.ensures ∙ c.if-is_hex.true in
    (e, omega (arith, (hex_parts c.args.digits.now e).even))
