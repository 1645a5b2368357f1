-- A list of runs and the room behind it: the runs alone give both back. Assumes nothing.
use Rattle.std.specs.Prelude.{◌≡◌, ℕ, ◌-◌, ◌≤◌, List, ◌++◌, length, take, drop, replicate}
use Rattle.std.proofs.Common.{arith, length-take-le, take-append-drop}
use Rattle.runs.specs.declared.EdgeRun.{EdgeRun}
use Rattle.runs.specs.Runs.{run, room}

-- what stands in the room behind so many runs
abbrev pub spare : ℕ → List EdgeRun
spare count = replicate (room - count) (run 0 0 0)

-- a list fills the room: so many runs, and behind them runs of no edges
pub record Padded (count : ℕ) (list : List EdgeRun) : Type 0 where
  pub low : count ≤ room
  pub long : length list ≡ room
  pub rest : drop count list ≡ spare count

module _ (count : ℕ) (list : List EdgeRun) (h : Padded count list) where
  pub padded_count : length (take count list) ≡ count
  padded_count = length-take-le count list (omega (arith, h.low, h.long))

  pub padded_list : take count list ++ spare (length (take count list)) ≡ list
  padded_list = rw (padded_count, ← h.rest) (take-append-drop count list)
