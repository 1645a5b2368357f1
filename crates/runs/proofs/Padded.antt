-- A run that is stored behind a list of runs, in the room that is left. Assumes nothing.
use Rattle.std.proofs.Common.{ℕ, ◌+◌, ◌-◌, ◌<◌, ◌≤◌, List, drop, set, replicate, sym, ap, ◌∙◌, arith, length-set}
use Rattle.std.proofs.lemmas.List.{drop-set-lt, drop-drop, drop-replicate}
use Rattle.runs.specs.declared.EdgeRun.{EdgeRun}
use Rattle.runs.specs.Runs.{run, room}
use Rattle.runs.specs.Padded.{Padded}

pub padded_push : (count : ℕ) (list : List EdgeRun) (r : EdgeRun) → Padded count list → count < room → Padded (count + 1) (set list count r)
padded_push count list r h free =
    let next : count + 1 ≤ room = omega (arith, free) in
    record {
      low = next;
      long = length-set list count r ∙ h.long;
      rest = drop-set-lt (count + 1) list count r (omega arith)
          ∙ sym (drop-drop 1 count list)
          ∙ ap (drop 1) h.rest
          ∙ drop-replicate 1 (room - count) (run 0 0 0)
          ∙ ap (λ n. replicate n (run 0 0 0)) (omega (arith, free));
    }
