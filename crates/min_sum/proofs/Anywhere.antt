-- The exchange in buffers that are laid out in any way: when it is done, its loops, and what its calls leave. Assumes nothing.
use mathlib.Core.Bool.{Bool, true, false}
use mathlib.Core.List.{List, [], ◌∷◌, flat_map}
use mathlib.Core.Path.{◌≡◌, refl, ap, ◌∙◌}
use Prim.Native.Nat.{ℕ, ◌+◌, ◌-◌, ◌*◌, ◌/◌, ◌%◌, ◌≤◌, ◌<◌}
use native.Mathlib.Nat.{sub-zero}
use native.Mathlib.Omega.{arith}
use borrow.Author.Tests.{leb-true}
use lib.Dec.{leb, eqb}
use lib.ListN.{length, get_or, drop, replicate, length-set}
use Rattle.std.proofs.lemmas.List.{get_or_default}
use Rattle.maths.specs.Tests.{both, below}
use Rattle.maths.specs.Lists.{span, fold}
use Rattle.maths.specs.Parts.{overlaid}
use Rattle.maths.proofs.Tests.{both_first, both_second}
use Rattle.maths.proofs.Lists.{span_turn, span_end}
use Rattle.runs.specs.declared.EdgeRun.{EdgeRun}
use Rattle.runs.specs.Runs.{run_edges}
use Rattle.min_sum.specs.declared.layout.Layout.{Layout}
use Rattle.min_sum.specs.Confidence.{Confidence}
use Rattle.min_sum.specs.MinSum.{Link, numbered}
use Rattle.min_sum.specs.Layouts.{make_up, Inside, Rest}
use Rattle.min_sum.specs.Working.{link_at, run_links}
use Rattle.min_sum.specs.Anywhere.{lies_in, ready_for, Room, Buffers, buffers, exchange, add_at, take_at, add_step, taken_all, exchanged, SameLengths, Keeps}
use Rattle.min_sum.proofs.Fitting.{makes_ready}
use Rattle.min_sum.proofs.Links.{turn_inside, turn_rest, turn_fold, end_fold}

-- ---- a layout lies in buffers of n numbers and m bytes, and runs are its edges
module _ (l : Layout) (n m : ℕ) where
  lies_room : lies_in l n m ≡ true → Room l n m
  unfolding lies_in
  lies_room all =
      let third = both_first _ (leb l.checks m) all in
      let second = both_first _ (leb (l.second + l.checks) n) third in
      let first = both_first _ (leb (l.first + l.checks) n) second in
      record {
        messages = leb-true (l.edges + l.edges) n (both_first _ (leb (l.marginals + l.bits) n) first);
        marginals = leb-true (l.marginals + l.bits) n (both_second (leb (l.edges + l.edges) n) _ first);
        first = leb-true (l.first + l.checks) n (both_second (both (leb (l.edges + l.edges) n) (leb (l.marginals + l.bits) n)) _ second);
        second = leb-true (l.second + l.checks) n (both_second (both (both (leb (l.edges + l.edges) n) (leb (l.marginals + l.bits) n)) (leb (l.first + l.checks) n)) _ third);
        marks = leb-true l.checks m (both_second (both (both (both (leb (l.edges + l.edges) n) (leb (l.marginals + l.bits) n)) (leb (l.first + l.checks) n)) (leb (l.second + l.checks) n)) _ all);
      }

  module _ (rs : List EdgeRun) (e : ready_for l n m rs ≡ true) where
    ready : both (lies_in l n m) (make_up l rs) ≡ true
    unfolding ready_for
    ready = e

    pub ready_room : Room l n m
    ready_room = lies_room (both_first (lies_in l n m) (make_up l rs) ready)

    pub ready_rest : Rest l 0 rs
    ready_rest = (makes_ready l rs 0 (omega arith) (both_second (lies_in l n m) (make_up l rs) ready)).runs

-- ---- the steps keep both lengths
module _ {C : Type 0} (o : Confidence C) (l : Layout) where
  pub add_keeps : Keeps (add_step o l)
  unfolding add_at
  add_keeps e b = record { working = length-set _ _ _ ∙ length-set b.working _ _; marks = refl }

  pub take_keeps : Keeps (take_at o l)
  unfolding take_at
  take_keeps e b = record { working = length-set _ _ _ ∙ length-set _ _ _ ∙ length-set b.working _ _; marks = length-set b.marks _ _ }

same_refl : {C : Type 0} {a : Buffers C} → SameLengths a a
same_refl = record { working = refl; marks = refl }

same_trans : {C : Type 0} {a b d : Buffers C} → SameLengths a b → SameLengths b d → SameLengths a d
same_trans p q = record { working = q.working ∙ p.working; marks = q.marks ∙ p.marks }

fold_same : {C : Type 0} {step : Link → Buffers C → Buffers C} → Keeps step → (ks : List Link) (b : Buffers C) → SameLengths b (fold step ks b)
unfolding fold
fold_same keeps [] b = same_refl
fold_same {step = step} keeps (k ∷ ks) b = same_trans (keeps k b) (fold_same keeps ks (step k b))

pub same_room : {C : Type 0} {l : Layout} {a b : Buffers C} → Room l (length a.working) (length a.marks) → SameLengths a b → Room l (length b.working) (length b.marks)
same_room z s = rw (s.working, s.marks) z

-- ---- a run of edges from number e, check a and bit v on, at turn i of size: folding what is left over the present buffers gives the whole
pub record Running {C : Type 0} (step : Link → Buffers C → Buffers C) (e a v size i : ℕ) (b₀ b : Buffers C) : Type 0 where
  pub low : i ≤ size
  pub same : SameLengths b₀ b
  pub folded : fold step (span (link_at e a v) i (size - i)) b ≡ fold step (run_links e a v size) b₀

module _ {C : Type 0} {step : Link → Buffers C → Buffers C} {e a v size : ℕ} where
  pub run_begins : {b : Buffers C} → Running step e a v size 0 b b
  run_begins = record { low = omega arith; same = same_refl; folded = rw (sub-zero size) }

  module _ {i : ℕ} {b₀ b : Buffers C} (r : Running step e a v size i b₀ b) where
    pub run_again : {b' : Buffers C} → Keeps step → i < size → b' ≡ step (link_at e a v i) b → Running step e a v size (i + 1) b₀ b'
    run_again keeps h t =
        record {
          low = omega arith;
          same = same_trans r.same (rw t (keeps (link_at e a v i) b));
          folded = span_turn step (link_at e a v) size i b r.folded h t;
        }

    pub run_ends : size ≤ i → b ≡ fold step (run_links e a v size) b₀
    run_ends h = span_end step (link_at e a v) size i b r.folded h

-- ---- the runs, at turn i, after e edges: folding the edges of the runs that are left gives the whole
pub record Passing {C : Type 0} (step : Link → Buffers C → Buffers C) (l : Layout) (rs : List EdgeRun) (e i : ℕ) (b₀ b : Buffers C) : Type 0 where
  pub low : i ≤ length rs
  pub edges_low : e ≤ 65536 * i
  pub same : SameLengths b₀ b
  pub rest : Rest l e (drop i rs)
  pub folded : fold step (numbered e (flat_map run_edges (drop i rs))) b ≡ fold step (numbered 0 (flat_map run_edges rs)) b₀

module _ {C : Type 0} {step : Link → Buffers C → Buffers C} {l : Layout} {rs : List EdgeRun} where
  pub pass_begins : {b : Buffers C} → Rest l 0 rs → Passing step l rs 0 0 b b
  pass_begins h = record { low = omega arith; edges_low = omega arith; same = same_refl; rest = h; folded = refl }

  module _ {e i : ℕ} {b₀ b : Buffers C} (q : Passing step l rs e i b₀ b) where
    pub pass_ends : length rs ≤ i → b ≡ fold step (numbered 0 (flat_map run_edges rs)) b₀
    pass_ends h = end_fold step rs i e b q.folded h

    module _ (k : i < length rs) (d : EdgeRun) where
      is_there : get_or rs i d ≡ get_or rs i (get_or rs i d)
      is_there = get_or_default rs i d (get_or rs i d) k

      pub pass_inside : Inside l e (get_or rs i d).check.0 (get_or rs i d).bit.0 (get_or rs i d).size
      pass_inside = turn_inside l rs i e q.rest k is_there

      pub pass_again : {b' : Buffers C} {n : ℕ} → Keeps step → n ≡ (get_or rs i d).size → n < 65536
          → b' ≡ fold step (run_links e (get_or rs i d).check.0 (get_or rs i d).bit.0 (get_or rs i d).size) b → Passing step l rs (e + n) (i + 1) b₀ b'
      pass_again keeps en small f =
          let r = get_or rs i d in
          record {
            low = omega arith;
            edges_low = omega (arith, q.edges_low);
            same = same_trans q.same (rw f (fold_same keeps (run_links e r.check.0 r.bit.0 r.size) b));
            rest = rw en (turn_rest l rs i e q.rest k is_there);
            folded = rw en (turn_fold l rs i e q.rest k is_there step b q.folded f);
          }

-- ---- an exchange, by what its calls leave
module _ {C : Type 0} (o : Confidence C) (l : Layout) where
  -- the first loop's steps leave the bytes
  pub added_is : (ks : List Link) (w : List C) (s : List ℕ) → fold (add_step o l) ks (buffers w s) ≡ buffers (fold (add_at o l s) ks w) s
  unfolding fold
  added_is [] w s = refl
  added_is (k ∷ ks) w s = added_is ks (add_at o l s k w) s

  module _ (rs : List EdgeRun) where
    -- w₁ and s₁ are renewed, and the second loop left b
    pub taken_by : (w w₁ : List C) (s s₁ : List ℕ) (b : Buffers C) (r : Bool) → r ≡ below (length b.marks) (λ a. eqb (get_or b.marks a 0 / 2 % 2) 0)
        → b ≡ fold (take_at o l) (numbered 0 (flat_map run_edges rs)) (buffers w₁ s₁)
        → s₁ ≡ replicate (length s) 0 → w₁ ≡ overlaid l.first (replicate (2 * l.checks) o.top) w
        → exchange r b ≡ taken_all o l rs (buffers w s)
    unfolding taken_all
    taken_by w w₁ s s₁ b r er e es ew = rw (er, e, es, ew)

    -- the first loop left b₁
    pub exchanged_by : (w : List C) (s : List ℕ) (b₁ b₂ : Buffers C) (r : Bool) → exchange r b₂ ≡ taken_all o l rs b₁
        → b₁ ≡ fold (add_step o l) (numbered 0 (flat_map run_edges rs)) (buffers w s) → ready_for l (length w) (length s) rs ≡ true
        → exchange r b₂ ≡ exchanged o l rs (buffers w s)
    unfolding exchanged
    exchanged_by w s b₁ b₂ r e e₁ t = rw t (e ∙ ap (taken_all o l rs) (e₁ ∙ added_is (numbered 0 (flat_map run_edges rs)) w s))

    pub exchanged_not : (w : List C) (s : List ℕ) → ready_for l (length w) (length s) rs ≡ false → exchange false (buffers w s) ≡ exchanged o l rs (buffers w s)
    unfolding exchanged
    exchanged_not w s t = rw t
