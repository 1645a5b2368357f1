-- A table by its number. Assumes nothing.
use Rattle.std.specs.Prelude.{List, [], ℕ, ltb, length, get_or}
use Rattle.maths.specs.Tests.{pick}

-- the number of a table, of so many; the first where there are not so many
abbrev pub listed : ℕ → ℕ → ℕ
listed t tables = pick (ltb t tables) t 0

abbrev pub table_at : {A : Type 0} → List (List A) → ℕ → List A
table_at ts t = get_or ts (listed t (length ts)) []
