-- The messages in buffers whose parts follow one another are those of document 01: the stores of an edge are its steps on the parts. Assumes nothing.
use mathlib.Core.List.{List, [], map, flat_map}
use mathlib.Core.Path.{◌≡◌, refl, sym, ap, ◌∙◌}
use Prim.Native.Nat.{ℕ, ◌+◌}
use native.Mathlib.Nat.{zero-add}
use native.Mathlib.Omega.{arith}
use lib.ListN.{length, get_or, set}
use Rattle.maths.specs.Lists.{fold}
use Rattle.maths.specs.Parts.{part}
use Rattle.maths.proofs.Parts.{part_at, part_set, part_before, part_after}
use Rattle.runs.specs.declared.EdgeRun.{EdgeRun}
use Rattle.runs.specs.Runs.{run_edges}
use Rattle.min_sum.specs.declared.layout.Layout.{Layout}
use Rattle.min_sum.specs.Confidence.{Confidence}
use Rattle.min_sum.specs.MinSum.{Link, link, numbered, add_message}
use Rattle.min_sum.specs.Layouts.{Inside, Rest}
use Rattle.min_sum.specs.Working.{Parts, held as held_parts, add_at as add_part, take_at as take_part}
use Rattle.min_sum.specs.Anywhere.{Sized, held, Buffers, buffers, add_at, take_at, add_step, Keeps}
use Rattle.min_sum.proofs.Checked.{odd_in, Checked, held_checked as checked_parts, take_checked}
use Rattle.min_sum.proofs.Held.{add_held, take_held, fold_held}
use Rattle.min_sum.proofs.Links.{In, each_inside, fold_each}
use Rattle.min_sum.proofs.Anywhere.{add_keeps, take_keeps, added_is}

-- the messages that the buffers hold, and the parity of each check
unfoldable pub held_checked : {C : Type 0} → Layout → List C → List ℕ → Checked C
held_checked l w s = record { messages = held l w s; odd = map odd_in s }

-- the parts that they hold, of no runs and no LLRs, of which no step asks
abbrev pub parts_at : {C : Type 0} → Layout → Buffers C → Parts C
parts_at l b =
    let w = b.working in
    record {
      llrs = [];
      runs = [];
      u = part 0 l.edges w;
      v = part l.edges l.edges w;
      marginals = part l.marginals l.bits w;
      first = part l.first l.checks w;
      second = part l.second l.checks w;
      marks = b.marks;
    }

held_is : {C : Type 0} (l : Layout) (b : Buffers C) → held l b.working b.marks ≡ held_parts (parts_at l b)
unfolding held held_parts
held_is l b = refl

checked_is : {C : Type 0} (l : Layout) (b : Buffers C) → held_checked l b.working b.marks ≡ checked_parts (parts_at l b)
unfolding held held_parts held_checked checked_parts
checked_is l b = refl

-- ---- one edge
module _ {C : Type 0} (o : Confidence C) (l : Layout) (w : List C) (s : List ℕ) (e a v : ℕ) (z : Sized l (length w) (length s)) (h : Inside l e a v 1) where
  -- what is read
  u_at : get_or (part 0 l.edges w) e o.zero ≡ get_or w e o.zero
  u_at = part_at 0 l.edges w e o.zero (omega arith) ∙ rw zero-add

  v_at : get_or (part l.edges l.edges w) e o.zero ≡ get_or w (l.edges + e) o.zero
  v_at = part_at l.edges l.edges w e o.zero (omega arith)

  marginal_at : get_or (part l.marginals l.bits w) v o.zero ≡ get_or w (l.marginals + v) o.zero
  marginal_at = part_at l.marginals l.bits w v o.zero (omega arith)

  first_at : get_or (part l.first l.checks w) a o.zero ≡ get_or w (l.first + a) o.zero
  first_at = part_at l.first l.checks w a o.zero (omega arith)

  second_at : get_or (part l.second l.checks w) a o.zero ≡ get_or w (l.second + a) o.zero
  second_at = part_at l.second l.checks w a o.zero (omega arith)

  -- the stores of a message u, and of the marginal x
  added : (u x : C) → parts_at l (buffers (set (set w e u) (l.marginals + v) x) s)
      ≡ record {
        llrs = [];
        runs = [];
        u = set (part 0 l.edges w) e u;
        v = part l.edges l.edges w;
        marginals = set (part l.marginals l.bits w) v x;
        first = part l.first l.checks w;
        second = part l.second l.checks w;
        marks = s;
      }
  added u x =
      let i = l.marginals + v in
      let y = set w e u in
      rw (
        part_after 0 l.edges y i x (omega arith),
        part_set 0 l.edges w e u e (omega arith) (omega arith),
        part_after l.edges l.edges y i x (omega arith),
        part_before l.edges l.edges w e u (omega arith),
        part_set l.marginals l.bits y i x v refl (omega arith),
        part_before l.marginals l.bits w e u (omega arith),
        part_before l.first l.checks y i x (omega arith),
        part_before l.first l.checks w e u (omega arith),
        part_before l.second l.checks y i x (omega arith),
        part_before l.second l.checks w e u (omega arith),
      )

  -- the stores of a message x, of the minima f and g, and of the check's byte b
  taken : (x f g : C) (b : ℕ) → parts_at l (buffers (set (set (set w (l.edges + e) x) (l.first + a) f) (l.second + a) g) (set s a b))
      ≡ record {
        llrs = [];
        runs = [];
        u = part 0 l.edges w;
        v = set (part l.edges l.edges w) e x;
        marginals = part l.marginals l.bits w;
        first = set (part l.first l.checks w) a f;
        second = set (part l.second l.checks w) a g;
        marks = set s a b;
      }
  taken x f g b =
      let i = l.edges + e in
      let j = l.first + a in
      let k = l.second + a in
      let y = set w i x in
      let t = set y j f in
      rw (
        part_after 0 l.edges t k g (omega arith),
        part_after 0 l.edges y j f (omega arith),
        part_after 0 l.edges w i x (omega arith),
        part_after l.edges l.edges t k g (omega arith),
        part_after l.edges l.edges y j f (omega arith),
        part_set l.edges l.edges w i x e refl (omega arith),
        part_after l.marginals l.bits t k g (omega arith),
        part_after l.marginals l.bits y j f (omega arith),
        part_before l.marginals l.bits w i x (omega arith),
        part_after l.first l.checks t k g (omega arith),
        part_set l.first l.checks y j f a refl (omega arith),
        part_before l.first l.checks w i x (omega arith),
        part_set l.second l.checks t k g a refl (omega arith),
        part_before l.second l.checks y j f (omega arith),
        part_before l.second l.checks w i x (omega arith),
      )

  add_parts : parts_at l (add_step o l (link e a v) (buffers w s)) ≡ add_part o (link e a v) (parts_at l (buffers w s))
  unfolding add_at add_part
  add_parts = added _ _ ∙ rw (v_at, first_at, second_at, marginal_at)

  take_parts : parts_at l (take_at o l (link e a v) (buffers w s)) ≡ take_part o (link e a v) (parts_at l (buffers w s))
  unfolding take_at take_part
  take_parts = taken _ _ _ _ ∙ rw (u_at, v_at, first_at, second_at, marginal_at)

-- ---- all edges of runs that make up the layout
module _ {C : Type 0} (o : Confidence C) (l : Layout) (rs : List EdgeRun) (rest : Rest l 0 rs) where
  abbrev SizedIn : Buffers C → Type 0
  SizedIn b = Sized l (length b.working) (length b.marks)

  abbrev links : List Link
  links = numbered 0 (flat_map run_edges rs)

  keeps_sized : {step : Link → Buffers C → Buffers C} → Keeps step → (k : Link) (b : Buffers C) → SizedIn b → SizedIn (step k b)
  keeps_sized keeps k b z = let same = keeps k b in rw (same.working, same.marks) z

  add_in : (k : Link) (b : Buffers C) → In l k → SizedIn b → parts_at l (add_step o l k b) ≡ add_part o k (parts_at l b)
  unfolding In
  add_in k b h z = add_parts o l b.working b.marks k.number k.check k.bit z h

  take_in : (k : Link) (b : Buffers C) → In l k → SizedIn b → parts_at l (take_at o l k b) ≡ take_part o k (parts_at l b)
  unfolding In
  take_in k b h z = take_parts o l b.working b.marks k.number k.check k.bit z h

  all_added : (b : Buffers C) → SizedIn b → parts_at l (fold (add_step o l) links b) ≡ fold (add_part o) links (parts_at l b)
  all_added b z = fold_each (add_step o l) (add_part o) (parts_at l) (In l) SizedIn (keeps_sized (add_keeps o l)) add_in links (each_inside l 0 rs rest) b z

  all_taken : (b : Buffers C) → SizedIn b → parts_at l (fold (take_at o l) links b) ≡ fold (take_part o) links (parts_at l b)
  all_taken b z = fold_each (take_at o l) (take_part o) (parts_at l) (In l) SizedIn (keeps_sized (take_keeps o l)) take_in links (each_inside l 0 rs rest) b z

  pub added_held : (s : List ℕ) (w : List C) → Sized l (length w) (length s)
      → held l (fold (add_at o l s) (numbered 0 (flat_map run_edges rs)) w) s ≡ fold (add_message o) (numbered 0 (flat_map run_edges rs)) (held l w s)
  added_held s w z =
      let b = buffers w s in
      let left = buffers (fold (add_at o l s) links w) s in
      let same : parts_at l left ≡ fold (add_part o) links (parts_at l b) = ap (parts_at l) (sym (added_is o l links w s)) ∙ all_added b z in
      held_is l left ∙ ap held_parts same ∙ fold_held (add_part o) (add_message o) held_parts (add_held o) links (parts_at l b)
      ∙ ap (fold (add_message o) links) (sym (held_is l b))

  pub taken_held : (b : Buffers C) → Sized l (length b.working) (length b.marks)
      → held_checked l (fold (take_at o l) (numbered 0 (flat_map run_edges rs)) b).working (fold (take_at o l) (numbered 0 (flat_map run_edges rs)) b).marks
      ≡ fold (take_checked o) (numbered 0 (flat_map run_edges rs)) (held_checked l b.working b.marks)
  taken_held b z =
      let left = fold (take_at o l) links b in
      checked_is l left ∙ ap checked_parts (all_taken b z) ∙ fold_held (take_part o) (take_checked o) checked_parts (take_held o) links (parts_at l b)
      ∙ ap (fold (take_checked o) links) (sym (checked_is l b))
