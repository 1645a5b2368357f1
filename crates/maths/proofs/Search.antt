-- What a test says that is asked of one of two. Assumes nothing.
use mathlib.Core.Bool.{Bool, true, false}
use mathlib.Core.Logic.{◌⊎◌, inl, inr}
use lib.Dec.{T}
use Rattle.maths.specs.Search.{either}

pub either_cases : (x y : Bool) → T (either x y) → T x ⊎ T y
either_cases true y t = inl tt
either_cases false y t = inr t
