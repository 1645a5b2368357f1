-- The row of a generator with blocks more behind them starts as the row of G. Assumes nothing.
use mathlib.Core.Bool.{Bool, true, false}
use mathlib.Core.List.{List}
use mathlib.Core.Path.{◌≡◌, refl, sym, ◌∙◌}
use Prim.Native.Nat.{ℕ, ◌+◌, ◌-◌, ◌*◌, ◌/◌, ◌%◌, ◌<◌}
use native.Mathlib.Nat.{mod-lt, div-lt_iff_lt-mul}
use native.Mathlib.Omega.{arith}
use borrow.Author.Tests.{ltb-false}
use lib.Dec.{ltb}
use lib.Arith.{digits_lt}
use Rattle.maths.specs.Tests.{pick}
use Rattle.maths.specs.Ones.{delta}
use Rattle.codes.specs.Codes.{Known, row_of, circulant_of}
use Rattle.matrices.specs.Circulants.{Circ}
use Rattle.codes.specs.Frames.{generator}
use Rattle.matrices.specs.Generators.{w_entry, g_entry}
use Rattle.matrices.proofs.Sizes.{parity_blocks, sizes}
use Rattle.matrices.proofs.Generators.{adds_entry}
use Rattle.matrices.proofs.RowTest.{longer, long_row, longer_same}

module _ (code : ℕ) (known : Known code) (more : List Circ → List ℕ → ℕ → List (List ℕ)) where
  abbrev b : ℕ
  b = circulant_of code

  abbrev k : ℕ
  k = (row_of code).k

  pos : 0 < b
  pos = (sizes code known).some

  pub row_same : (i v : ℕ) → v < (row_of code).n → long_row code known more i v ≡ g_entry code i v
  unfolding long_row
  row_same i v h = go (ltb v k) refl
    where
      go : (x : Bool) → ltb v k ≡ x → pick x (delta i v) (w_entry b (longer code known more) i (v - k)) ≡ pick x (delta i v) (w_entry b (generator code) i (v - k))
      go true e = refl
      go false e =
          let j = v - k in
          let z = sizes code known in
          let l : j < parity_blocks code * b = omega (arith, ltb-false v k e, z.parity_blocks_lem) in
          sym (adds_entry b pos (longer code known more) i j)
          ∙ longer_same code known more (i / b) (j / b * b + (j % b + (b - i % b)) % b) (digits_lt ((div-lt_iff_lt-mul pos).1 l) (mod-lt (j % b + (b - i % b)) pos))
          ∙ adds_entry b pos (generator code) i j
