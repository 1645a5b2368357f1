use Rattle.std.proofs.Common.{◌≡◌, ◌-◌, length, replicate, rules}
use Rattle.bit_flip.proofs.Votes.{set_by}
use Rattle.bit_flip.proofs.erasures.set_from.Goals as goal

pub returns : goal.returns
returns c =
    let filled : c.fill.new.self ≡ replicate (length c.args.bits.now - c.args.from) c.args.value = search rules in
    set_by c.args.from c.args.value c.args.bits.now c.fill.new.self c.requires filled
