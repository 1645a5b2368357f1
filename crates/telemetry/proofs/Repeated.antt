-- On the TM codes the repeated erasure passes of request T-04 end in pass 0 with the word of the one pass, whatever was received. Assumes nothing.
use mathlib.Core.Bool.{Bool, true, false}
use mathlib.Core.List.{List}
use mathlib.Core.Path.{◌≡◌, refl, ap, ◌∙◌, fun_ext}
use Prim.Native.Nat.{ℕ, ◌≤◌}
use lib.ListN.{length}
use Rattle.maths.specs.Tests.{pick}
use Rattle.maths.specs.Budget.{stop, go, end}
use Rattle.maths.proofs.Tests.{below_all}
use Rattle.maths.proofs.Budget.{run_at_once}
use Rattle.codes.specs.Codes.{TM}
use Rattle.codes.specs.Edges.{edges}
use Rattle.bit_flip.specs.Erasures.{voted}
use Rattle.bit_flip.specs.Outcome.{punctured}
use Rattle.telemetry.specs.Repeated.{Partly, partly, settled, all_known, erasure_turn, repeated}
use Rattle.telemetry.proofs.Votes.{none_left}

pub repeated_once : (code : ℕ) → TM code → (w : List ℕ) (limit : ℕ) → 1 ≤ limit
    → repeated (punctured code) (edges code) limit w ≡ end true 0 (partly (voted (punctured code) (edges code) w) (λ v. false))
unfolding erasure_turn
repeated_once code tm w limit h =
    let s = partly w (punctured code) in
    let t = partly (voted (punctured code) (edges code) w) (λ v. false) in
    let none : settled (edges code) s ≡ t = ap (partly t.word) (fun_ext (none_left code tm w)) in
    run_at_once (erasure_turn (edges code)) limit s t h
    (ap (λ (x : Partly). pick (all_known x) (stop x) (go x)) none
    ∙ ap (λ (x : Bool). pick x (stop t) (go t)) (below_all (length t.word) (λ v. true) (λ v l. refl)))
