use Rattle.std.proofs.Common.{◌-◌, length, arith}
use Rattle.runs.specs.Runs.{laid}
use Rattle.bit_flip.specs.Erasures.{from_on}
use Rattle.bit_flip.proofs.Votes.{all_sent, no_limit, erased_by}
use Rattle.bit_flip.proofs.erasures.decode_erasures.Goals as goal
use Rattle.bit_flip.proofs.erasures.decode_erasures.Goals.{else-n-bits-via-then-n-bits+else-limit-gt0, else-n-bits-via-else-n-bits}

pub returns-then-limit-gt0 : goal.returns-then-limit-gt0
returns-then-limit-gt0 c =
    erased_by c.args.runs.now c.args.bits.now c.set_from.new.bits _ _ c.args.n c.args.limit c.vote.ensures c.set_from.ensures c.set_from.auto.bits c.requires
    c.if-n-bits.true (λ e. omega (arith, c.if-limit-gt0.true))

pub returns-else-n-bits : goal.returns-else-n-bits
returns-else-n-bits c =
    let a = c.args in
    let n = length a.bits.now in
    let es = laid (length a.checks.now) n a.runs.now in
    elim c.else-n-bits.branch [
      | else-n-bits-via-then-n-bits+else-limit-gt0 w ↦ no_limit (from_on a.n n) es (n - a.n) a.limit a.bits.now (omega (arith, w.if-limit-gt0.false))
      | else-n-bits-via-else-n-bits w ↦ all_sent (from_on a.n n) es a.bits.now n a.n a.limit (omega (arith, w.if-n-bits.false))
    ]
