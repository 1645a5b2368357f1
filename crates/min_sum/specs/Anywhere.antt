-- The messages in buffers that are laid out in any way: the working buffer by the places of its parts, and a byte for each check. Assumes nothing.
use Rattle.std.specs.Prelude.{Bool, false, ◌≡◌, ℕ, ◌+◌, ◌*◌, ◌/◌, ◌%◌, ◌≤◌, eqb, leb, length, get_or, set, replicate}
use mathlib.Core.List.{List, map, flat_map}
use Rattle.std.specs.Int.Bits.{bit_xor}
use Rattle.maths.specs.Tests.{pick, both, below}
use Rattle.maths.specs.Lists.{fold}
use Rattle.maths.specs.Parts.{part, overlaid}
use Rattle.runs.specs.declared.EdgeRun.{EdgeRun}
use Rattle.runs.specs.Runs.{run_edges}
use Rattle.min_sum.specs.declared.layout.Layout.{Layout}
use Rattle.min_sum.specs.Layouts.{make_up}
use Rattle.min_sum.specs.Confidence.{Confidence}
use Rattle.min_sum.specs.MinSum.{Link, Messages, at, new_u, new_v, new_first, new_second, numbered}
use Rattle.min_sum.specs.Working.{negative_in, mark_of}

-- the parts of a layout lie within n numbers, and its checks within m bytes
unfoldable pub lies_in : Layout → ℕ → ℕ → Bool
lies_in l n m =
    both
    (both (both (both (leb (l.edges + l.edges) n) (leb (l.marginals + l.bits) n)) (leb (l.first + l.checks) n)) (leb (l.second + l.checks) n))
    (leb l.checks m)

-- both: messages over these runs can be exchanged in such buffers
unfoldable pub ready_for : Layout → ℕ → ℕ → List EdgeRun → Bool
ready_for l n m rs = both (lies_in l n m) (make_up l rs)

-- the layout's parts follow one another and make up w numbers; there are s bytes, one for each check
pub record Sized (l : Layout) (w s : ℕ) : Type 0 where
  pub marginals : l.marginals ≡ 2 * l.edges
  pub first : l.first ≡ l.marginals + l.bits
  pub second : l.second ≡ l.first + l.checks
  pub working : w ≡ l.second + l.checks
  pub marks : s ≡ l.checks

-- its parts lie within n numbers, and its checks within m bytes, as lies_in tests
pub record Room (l : Layout) (n m : ℕ) : Type 0 where
  pub messages : l.edges + l.edges ≤ n
  pub marginals : l.marginals + l.bits ≤ n
  pub first : l.first + l.checks ≤ n
  pub second : l.second + l.checks ≤ n
  pub marks : l.checks ≤ m

-- the messages that a working buffer w and the checks' bytes s hold
unfoldable pub held : {C : Type 0} → Layout → List C → List ℕ → Messages C
held l w s =
    record {
      u = part 0 l.edges w;
      v = part l.edges l.edges w;
      marginals = part l.marginals l.bits w;
      first = part l.first l.checks w;
      second = part l.second l.checks w;
      negative = map negative_in s;
    }

-- the working buffer and the checks' bytes
pub record Buffers (C : Type 0) : Type 0 where
  pub working : List C
  pub marks : List ℕ

abbrev pub buffers : {C : Type 0} → List C → List ℕ → Buffers C
buffers w s = record { working = w; marks = s }

-- whether every check was even, and what is left
pub record Exchanged (C : Type 0) : Type 0 where
  pub even : Bool
  pub left : Buffers C

abbrev pub exchange : {C : Type 0} → Bool → Buffers C → Exchanged C
exchange b x = record { even = b; left = x }

-- what is made of one edge, as the buffers hold it: add_message, and take_message with the parity of the marginals' hard bits
module _ {C : Type 0} (o : Confidence C) (l : Layout) where
  unfoldable pub add_at : List ℕ → Link → List C → List C
  add_at s e w =
      let u = new_u o (at o w (l.edges + e.number)) (at o w (l.first + e.check)) (at o w (l.second + e.check)) (negative_in (get_or s e.check 0)) in
      set (set w e.number u) (l.marginals + e.bit) (o.add (at o w (l.marginals + e.bit)) u)

  unfoldable pub take_at : Link → Buffers C → Buffers C
  take_at e b =
      let w = b.working in
      let m = at o w (l.marginals + e.bit) in
      let first = at o w (l.first + e.check) in
      let x = new_v o m (at o w e.number) (at o w (l.edges + e.number)) in
      buffers
      (set
      (set (set w (l.edges + e.number) x) (l.first + e.check) (new_first o (o.magnitude x) first))
      (l.second + e.check)
      (new_second o (o.magnitude x) first (at o w (l.second + e.check))))
      (set b.marks e.check (bit_xor (get_or b.marks e.check 0) (mark_of (o.hard x) (o.hard m))))

  -- every edge adds its message
  abbrev pub added_all : List ℕ → List EdgeRun → List C → List C
  added_all s rs w = fold (add_at s) (numbered 0 (flat_map run_edges rs)) w

  -- the minima and signs restart, and every edge takes its message; whether every check is even then
  unfoldable pub taken_all : List EdgeRun → Buffers C → Exchanged C
  taken_all rs b =
      let w = overlaid l.first (replicate (2 * l.checks) o.top) b.working in
      let x = fold take_at (numbered 0 (flat_map run_edges rs)) (buffers w (replicate (length b.marks) 0)) in
      exchange (below (length x.marks) (λ a. eqb (get_or x.marks a 0 / 2 % 2) 0)) x

  -- both; buffers that are not ready for it stay as they are
  unfoldable pub exchanged : List EdgeRun → Buffers C → Exchanged C
  exchanged rs b =
      pick (ready_for l (length b.working) (length b.marks) rs) (taken_all rs (buffers (added_all b.marks rs b.working) b.marks)) (exchange false b)

  -- adding a message, as a step of both buffers
  abbrev pub add_step : Link → Buffers C → Buffers C
  add_step e b = buffers (add_at b.marks e b.working) b.marks

-- buffers of the same lengths
pub record SameLengths {C : Type 0} (a b : Buffers C) : Type 0 where
  pub working : length b.working ≡ length a.working
  pub marks : length b.marks ≡ length a.marks

-- a step at an edge keeps both lengths
abbrev pub Keeps : {C : Type 0} → (Link → Buffers C → Buffers C) → Type 0
Keeps {C} step = (e : Link) (b : Buffers C) → SameLengths b (step e b)
