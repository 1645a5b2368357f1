-- The passes from a sum end as those from the error, with the word added. Assumes nothing.
use mathlib.Core.List.{List}
use mathlib.Core.Path.{◌≡◌}
use Prim.Native.Nat.{ℕ}
use lib.ListN.{length}
use Rattle.codes.specs.Edges.{Edge}
use Rattle.codes.specs.Equations.{word_of, Hold}
use Rattle.matrices.proofs.Edges.{Ranged}
use Rattle.bit_flip.specs.Flip.{passes}
use Rattle.bit_flip.specs.Steps.{Bits}
use Rattle.two_flips.specs.Words.{plus}
use Rattle.two_flips.proofs.Added.{end_plus, run_plus}

module _ (es : List Edge) (m n : ℕ) (ranged : Ranged m n es) (w : List ℕ) (good : Hold es m (word_of w)) where
  pub passes_plus : Bits w → (limit : ℕ) (e : List ℕ) → length e ≡ length w → Bits e → passes es m limit (plus w e) ≡ end_plus w (passes es m limit e)
  passes_plus w_bits limit e long bits = run_plus es m n ranged w good w_bits limit 0 e long bits
