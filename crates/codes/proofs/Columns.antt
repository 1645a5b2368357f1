-- The columns of a block stay inside it. Assumes nothing.
use mathlib.Core.Path.{◌≡◌}
use mathlib.Core.List.{[]}
use Prim.Native.Nat.{ℕ, zero, ◌+◌, ◌*◌, ◌/◌, ◌%◌, ◌≤◌, ◌<◌}
use native.Mathlib.Nat.{mod-lt, div-lt_iff_lt-mul, mul-le-mul_left}
use native.Mathlib.Omega.{arith}
use lib.ListN.{get_or}
use Rattle.codes.specs.declared.parity_iter.Block.{Block}
use Rattle.codes.specs.declared.parity_iter.Block.TheVariants.{Ends, Empty, Identity, Permutation}
use Rattle.codes.specs.Codes.{Matrix}
use Rattle.codes.specs.Edges.{column_of}

module _ (m i : ℕ) (four : m % 4 ≡ 0) (below : i < m) where
  pub quarter_pos : zero < m / 4
  quarter_pos = omega arith

  -- row i is in one of four quarters
  pub quarter_below : i / (m / 4) < 4
  quarter_below =
      let h : i < 4 * (m / 4) = omega arith in
      (div-lt_iff_lt-mul quarter_pos).1 h

  pub permutation_inside : (x y : ℕ) → m / 4 * (x % 4) + y % (m / 4) < m
  permutation_inside x y =
      let s : x % 4 ≤ 3 = omega arith in
      let a : m / 4 * (x % 4) ≤ m / 4 * 3 = mul-le-mul_left (m / 4) s in
      let b : y % (m / 4) < m / 4 = mod-lt y quarter_pos in
      omega arith

pub column_inside : (x : Matrix) (i : ℕ) → x.size % 4 ≡ 0 → i < x.size → (b : Block) → column_of x b i < x.size
column_inside x i four h Ends = omega arith
column_inside x i four h Empty = omega arith
column_inside x i four h (Identity v) =
    let z : zero < x.size = omega arith in
    mod-lt (i + v) z
column_inside x i four h (Permutation v) =
    let q = x.size / 4 in
    permutation_inside x.size i four h (get_or x.theta v 0 + i / q) (get_or (get_or x.phi (i / q) []) v 0 + i)
