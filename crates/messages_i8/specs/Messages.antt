-- The messages of a decode as their value. Assumes nothing.
use Rattle.std.specs.Prelude.{ℤ}
use Rattle.min_sum.specs.Working.{Parts, Agree}
use Rattle.messages_i8.specs.declared.Messages.TheInside.{Inside}

abbrev pub parts_of : Inside → Parts ℤ
parts_of m =
    record {
      llrs = m.llrs.now;
      runs = m.runs.now;
      u = m.u.now;
      v = m.v.now;
      marginals = m.marginals.now;
      first = m.first.now;
      second = m.second.now;
      marks = m.marks.now;
    }

abbrev pub Fitting : Inside → Type 0
Fitting m = Agree (parts_of m)
