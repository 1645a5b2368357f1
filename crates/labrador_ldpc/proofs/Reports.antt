-- A decoder's report in numbers, by what the decoder left and the byte that its success is written as. Assumes nothing.
use mathlib.Core.List.{List}
use mathlib.Core.Path.{◌≡◌, ap}
use Prim.Native.Nat.{ℕ}
use borrow.Author.Rules.{rules}
use lib.IntN.{ℤ}
use Rattle.report.specs.declared.Report.{Report}
use Rattle.report.specs.Report.{flag}
use Rattle.bit_flip.specs.Outcome as flips
use Rattle.min_sum.specs.Confidence.{i8}
use Rattle.min_sum.specs.Outcomes as softs
use Rattle.labrador_ldpc.specs.Doors.{hard, hard_door, soft, soft_door}

module _ (r : Report) (b code limit : ℕ) (e : b ≡ flag r.success) where
  pub hard_told : (input output₀ working₀ output working : List ℕ) → flips.left r output working ≡ flips.outcome code input output₀ working₀ limit
      → hard r.answer b r.iters output working ≡ hard_door (flips.outcome code input output₀ working₀ limit)
  hard_told input output₀ working₀ output working f = rw e (ap hard_door f)

  pub soft_told : (llrs working₀ working : List ℤ) (output₀ signs₀ output signs : List ℕ) → softs.left r output working signs ≡ softs.decode_outcome i8 code llrs output₀ working₀ signs₀ limit
      → soft r.answer b r.iters output working signs ≡ soft_door (softs.decode_outcome i8 code llrs output₀ working₀ signs₀ limit)
  soft_told llrs working₀ working output₀ signs₀ output signs f = rw e (ap soft_door f)

pub ruleset reports = (hard_told, soft_told, rules)
