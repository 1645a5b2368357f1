use Rattle.std.proofs.Common.{◌≡◌, ◌*◌, length, drop}
use Rattle.std.proofs.lemmas.List.Edits.{sets}
use Rattle.sheet_values.specs.Values.{unhex}
use Rattle.sheet_values.proofs.put_bytes.Given as goal

-- the bytes before j are written
abbrev pub invariant-loop-j : goal.invariant-loop-j
invariant-loop-j l =
    record {
      long : length l.out ≡ length l.initial.out;
      rest : sets l.out l.j (unhex (drop (2 * l.j) l.digits)) ≡ sets l.initial.out 0 (unhex l.digits);
    }
