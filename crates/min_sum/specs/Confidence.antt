-- What min-sum asks of the numbers that stand for confidences. Assumes nothing.
use Rattle.std.specs.Prelude.{Bool, false, List, ◌≡◌, ℕ, ℤ, pos, get_or}
use Rattle.min_sum.specs.Soft as soft

pub record Confidence (C : Type 0) : Type 0 where
  pub zero : C
  pub top : C
  pub magnitude : C → C
  pub add : C → C → C
  pub subtract : C → C → C
  pub negate : C → C
  pub same : C → C → Bool
  pub less : C → C → Bool
  pub hard : C → Bool

-- whole numbers between -(top + 1) and top
abbrev pub whole : ℕ → Confidence ℤ
whole top =
    record {
      zero = pos 0;
      top = pos top;
      magnitude = soft.magnitude top;
      add = soft.add top;
      subtract = soft.subtract top;
      negate = soft.negate top;
      same = soft.same;
      less = soft.less;
      hard = soft.hard;
    }

abbrev pub i8 : Confidence ℤ
i8 = whole 127

-- a set of values, zero among them, that adding zero does not leave: the hard bit of zero is 0, and adding zero turns no hard bit
pub record Steady {C : Type 0} (o : Confidence C) (In : C → Type 0) : Type 0 where
  pub zero_in : In o.zero
  pub zero_hard : o.hard o.zero ≡ false
  pub add_in : (x : C) → In x → In (o.add x o.zero)
  pub add_hard : (x : C) → In x → o.hard (o.add x o.zero) ≡ o.hard x

-- all of a list are in the set; past its end stands zero
abbrev pub Within : {C : Type 0} → Confidence C → (C → Type 0) → List C → Type 0
Within o In xs = (i : ℕ) → In (get_or xs i o.zero)
