-- The least weight of the TM codes, among the bits that are sent. Assumes nothing.
use mathlib.Core.Path.{ap}
use lib.Dec.{T}
use Prim.Native.Nat.{ℕ, ◌+◌, ◌*◌, ◌≤◌}
use native.Mathlib.Nat.{add-mul, le_of_mul-le-mul_right}
use native.Mathlib.Omega.{arith}
use Rattle.codes.specs.Codes.{TM, circulant_of}
use Rattle.codes.proofs.Codes.{tm_at}
use Rattle.matrices.specs.Circulants.{circs}
use Rattle.matrices.proofs.Sizes.{check_blocks, bit_blocks, sizes}
use Rattle.low_weights.specs.Weights.{LeastWeight}
use Rattle.low_weights.proofs.Weights.{even_rows}
use Rattle.low_weights.proofs.Heavy.{heavy}
use Rattle.telemetry.proofs.Sizes.{sent_blocks, punctured_blocks, third_block, cut}
use Rattle.telemetry.proofs.Alone.{all_alone_lem}
use Rattle.tm_distance.proofs.ReducedRows.{reduced_even}
use Rattle.tm_distance.proofs.Tests.{reduced_of, none_sent, none_hold}

-- what the computed search says of one code
pub none_sent_lem : (code : ℕ) → TM code → T (none_sent code)
none_sent_lem = tm_at none_sent none_hold

-- no word that meets every equation of a TM code has one to three ones among the bits that are sent
pub least_sent : (code : ℕ) → TM code → LeastWeight code 4
least_sent code tm w bit good some =
    let b = circulant_of code in
    let z = sizes code tm.1 in
    let c = cut code tm.1 in
    let third = third_block code in
    let punctured = punctured_blocks code in
    let bits = ap (λ (x : ℕ). x * b) c.bits in
    let room : (third + punctured) * b ≤ check_blocks code * b =
    omega (arith, c.room, c.third, c.sent, z.bit_blocks_lem, z.check_blocks_lem, add-mul third punctured b, add-mul (sent_blocks code) punctured b) in
    rw c.sent at (
    heavy b third (sent_blocks code) z.some (reduced_of code) 8 2 (none_sent_lem code tm) w bit
    (reduced_even b (sent_blocks code) (bit_blocks code) punctured third (check_blocks code) z.some c.bits (le_of_mul-le-mul_right room z.some)
    (circs code) (all_alone_lem code tm) w (even_rows code tm.1 w good))
    (rw c.sent some))
