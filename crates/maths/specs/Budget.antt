-- A run of turns with a budget. Assumes nothing.
use Rattle.std.specs.Prelude.{Bool, true, false, ℕ, zero, suc}

-- a turn stops with a state, or goes on with one
pub data Turn (S : Type 0) : Type 0 where
  stop : S → Turn S
  go : S → Turn S

-- how a run ends: whether a turn stopped it, the number of that turn or of all turns, and the state
pub record End (S : Type 0) : Type 0 where
  pub success : Bool
  pub turns : ℕ
  pub state : S

abbrev pub end : {S : Type 0} → Bool → ℕ → S → End S
end b n s = record { success = b; turns = n; state = s }

-- what follows a turn with the number n
abbrev pub follow : {S : Type 0} → Turn S → ℕ → (S → End S) → End S
follow (stop s) n rest = end true n s
follow (go s) n rest = rest s

-- at most so many turns, numbered from n on
unfoldable pub run : {S : Type 0} → (S → Turn S) → ℕ → ℕ → S → End S
run turn zero n s = end false n s
run turn (suc limit) n s = follow (turn s) n (run turn limit (suc n))

-- what is left of a state by so many steps
unfoldable pub iterated : {S : Type 0} → (S → S) → ℕ → S → S
iterated step zero s = s
iterated step (suc n) s = iterated step n (step s)
