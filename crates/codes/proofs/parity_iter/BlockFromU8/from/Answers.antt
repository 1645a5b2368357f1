use mathlib.Core.Path.{◌≡◌}
use Prim.Native.Nat.{◌≤◌, ◌<◌}
use native.Mathlib.Omega.{arith}
use borrow.Author.Tests.{lt-ltb, le-ltb, ne_eqb}
use Rattle.codes.specs.Blocks.{block_of}
use Rattle.codes.proofs.parity_iter.BlockFromU8.from.Goals as goal

pub returns-in-0 : goal.returns-in-0
unfolding block_of
returns-in-0 c = rw c.in-0.is

pub returns-in-1-to-63 : goal.returns-in-1-to-63
unfolding block_of
returns-in-1-to-63 c = let b = c.args.byte in
    let h : b < 64 = omega arith in
    let k : b ≡ 0 → ⊥ = λ e. omega arith in
    simp (lt-ltb b 64 h, ne_eqb b 0 k)

pub returns-in-64-to-127 : goal.returns-in-64-to-127
unfolding block_of
returns-in-64-to-127 c = let b = c.args.byte in
    let h : 64 ≤ b = omega arith in
    let k : b < 128 = omega arith in
    simp (le-ltb b 64 h, lt-ltb b 128 k, c.from.ensures)

pub returns-in-128-to-191 : goal.returns-in-128-to-191
unfolding block_of
returns-in-128-to-191 c = let b = c.args.byte in
    let h : 64 ≤ b = omega arith in
    let h2 : 128 ≤ b = omega arith in
    let k : b < 192 = omega arith in
    simp (le-ltb b 64 h, le-ltb b 128 h2, lt-ltb b 192 k, c.from-in-128-to-191.ensures)

pub returns-in-192-to-255 : goal.returns-in-192-to-255
unfolding block_of
returns-in-192-to-255 c = let b = c.args.byte in
    let h : 64 ≤ b = omega arith in
    let h2 : 128 ≤ b = omega arith in
    let h3 : 192 ≤ b = omega arith in
    simp (le-ltb b 64 h, le-ltb b 128 h2, le-ltb b 192 h3)
