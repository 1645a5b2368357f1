-- One flipped bit of a TC word is put right, whichever it is: at pass 1. Assumes nothing.
use mathlib.Core.Bool.{true}
use mathlib.Core.List.{List}
use mathlib.Core.Path.{◌≡◌}
use Prim.Native.Nat.{ℕ, ◌≤◌, ◌<◌}
use native.Mathlib.Omega.{arith}
use lib.ListN.{length}
use Rattle.maths.specs.Budget.{end}
use Rattle.codes.specs.Codes.{TC, bits_in, checks_in}
use Rattle.codes.specs.Edges.{edges}
use Rattle.codes.specs.Equations.{word_of, Meets}
use Rattle.runs.proofs.Flat.{edges_ranged}
use Rattle.bit_flip.specs.Flip.{passes}
use Rattle.bit_flip.specs.Steps.{Bits}
use Rattle.two_flips.specs.Words.{plus, one_at}
use Rattle.two_flips.proofs.Theorems.{one_right, all_clear}

module _ (code : ℕ) (tc : TC code) (w : List ℕ) (bits : Bits w) (long : length w ≡ bits_in code) (good : Meets code (word_of w)) where
  pub one_flip : (x : ℕ) → x < bits_in code → (limit : ℕ) → 2 ≤ limit
      → passes (edges code) (checks_in code) limit (plus w (one_at (bits_in code) x)) ≡ end true 1 w
  one_flip x hx = one_right (edges code) (checks_in code) (bits_in code) (edges_ranged code (omega arith)) w bits long good x hx (all_clear code tc x hx)
