-- The loops: what holds at a turn, and why it holds at the next, for any numbers that stand for confidences. Assumes nothing.
use mathlib.Core.Path.{◌≡◌, refl, sym, ap, ◌∙◌}
use mathlib.Core.Bool.{Bool, true, false}
use mathlib.Core.List.{List, flat_map}
use Prim.Native.Nat.{ℕ, ◌+◌, ◌-◌, ◌*◌, ◌/◌, ◌^◌, ◌≤◌, ◌<◌}
use native.Mathlib.Nat.{sub-zero}
use native.Mathlib.Omega.{arith}
use borrow.Author.Rules.{rules}
use lib.Dec.{eqb}
use lib.IntN.{ℤ}
use lib.Signed.{mag}
use lib.ListN.{length, get_or, set, drop}
use mir.Syntax.{Width}
use mir.Val.{hbits, to_z, of_z}
use Rattle.std.proofs.lemmas.List.{get_or_default}
use Rattle.maths.specs.Lists.{span, fold}
use Rattle.maths.specs.Tests.{pick}
use Rattle.maths.specs.Budget as budget
use Rattle.maths.specs.Budget.{Turn, stop, go, end}
use Rattle.maths.specs.Bits.{bit_at}
use Rattle.maths.specs.Bytes.{byte, pack}
use Rattle.maths.proofs.Budget.{run_first, run_more, run_stop, run_out}
use Rattle.maths.proofs.Lists.{span_turn, span_end}
use Rattle.maths.proofs.Bytes.{byte_from}
use Rattle.maths.proofs.Writing.{Written, written_none, written_more, written_in, written_all}
use Rattle.runs.specs.Runs.{run_edges}
use Rattle.runs.specs.declared.EdgeRun.{EdgeRun}
use Rattle.min_sum.specs.Confidence.{Confidence}
use Rattle.min_sum.specs.MinSum.{Link, Messages, numbered}
use Rattle.min_sum.specs.Hard.{to_llrs}
use Rattle.min_sum.specs.Layouts.{Inside, Rest}
use Rattle.min_sum.specs.Working.{Parts, Agree, Alike, Keeps, layout, link_at, run_links, over_edges, held, turn_in}
use Rattle.min_sum.proofs.Signed.{back}
use Rattle.min_sum.proofs.Held.{alike_refl, alike_trans, fold_alike}
use Rattle.min_sum.proofs.Links.{turn_inside, turn_rest, turn_fold, end_fold}

-- ---- a run of edges from number e, check a and bit v on, at turn i of size: folding what is left over the present parts gives the whole
pub record Running {C : Type 0} (step : Link → Parts C → Parts C) (e a v size i : ℕ) (p₀ p : Parts C) : Type 0 where
  pub low : i ≤ size
  pub alike : Alike p₀ p
  pub folded : fold step (span (link_at e a v) i (size - i)) p ≡ fold step (run_links e a v size) p₀

module _ {C : Type 0} {step : Link → Parts C → Parts C} {e a v size : ℕ} where
  pub run_begins : {p : Parts C} → Running step e a v size 0 p p
  run_begins = record { low = omega arith; alike = alike_refl; folded = rw (sub-zero size) }

  module _ {i : ℕ} {p₀ p : Parts C} (r : Running step e a v size i p₀ p) where
    pub run_inside : Inside (layout p₀) e a v size → i < size → Inside (layout p) (e + i) (a + i) (v + i) 1
    run_inside h k = let z = r.alike in record { numbers = omega (arith, h.numbers, z.u); checks = omega (arith, h.checks, z.marks); bits = omega (arith, h.bits, z.marginals) }

    pub run_again : {p' : Parts C} → Keeps step → i < size → p' ≡ step (link_at e a v i) p → Running step e a v size (i + 1) p₀ p'
    run_again keeps h t =
        record {
          low = omega arith;
          alike = alike_trans r.alike (rw t (keeps (link_at e a v i) p));
          folded = span_turn step (link_at e a v) size i p r.folded h t;
        }

    pub run_ends : size ≤ i → p ≡ fold step (run_links e a v size) p₀
    run_ends h = span_end step (link_at e a v) size i p r.folded h

-- ---- the runs of the parts, at turn i, after e edges: folding the edges of the runs that are left gives the whole
pub record Passing {C : Type 0} (step : Link → Parts C → Parts C) (e i : ℕ) (p₀ p : Parts C) : Type 0 where
  pub low : i ≤ length p₀.runs
  pub edges_low : e ≤ 65536 * i
  pub alike : Alike p₀ p
  pub rest : Rest (layout p₀) e (drop i p₀.runs)
  pub folded : fold step (numbered e (flat_map run_edges (drop i p₀.runs))) p ≡ over_edges step p₀

module _ {C : Type 0} {step : Link → Parts C → Parts C} where
  pub pass_begins : {p : Parts C} → Agree p → Passing step 0 0 p p
  pass_begins g = record { low = omega arith; edges_low = omega arith; alike = alike_refl; rest = g.ready.runs; folded = refl }

  module _ {e i : ℕ} {p₀ p : Parts C} (q : Passing step e i p₀ p) where
    pub pass_ends : (rs : List EdgeRun) → rs ≡ p₀.runs → length rs ≤ i → p ≡ over_edges step p₀
    pass_ends rs er h = end_fold step p₀.runs i e p q.folded (rw er at h)

    -- the runs, as they are lent
    module _ (rs : List EdgeRun) (er : rs ≡ p₀.runs) (k : i < length rs) (d : EdgeRun) where
      low_there : i < length p₀.runs
      low_there = rw er at k

      is_there : get_or rs i d ≡ get_or p₀.runs i (get_or rs i d)
      is_there = get_or_default rs i d (get_or rs i d) k ∙ ap (λ (xs : List EdgeRun). get_or xs i (get_or rs i d)) er

      pub pass_inside : Inside (layout p) e (get_or rs i d).check.0 (get_or rs i d).bit.0 (get_or rs i d).size
      pass_inside =
          let z = q.alike in
          let h = turn_inside (layout p₀) p₀.runs i e q.rest low_there is_there in
          record { numbers = omega (arith, h.numbers, z.u); checks = omega (arith, h.checks, z.marks); bits = omega (arith, h.bits, z.marginals) }

      pub pass_again : {p' : Parts C} {n : ℕ} → Keeps step → n ≡ (get_or rs i d).size → n < 65536
          → p' ≡ fold step (run_links e (get_or rs i d).check.0 (get_or rs i d).bit.0 (get_or rs i d).size) p → Passing step (e + n) (i + 1) p₀ p'
      pass_again {p'} keeps en small f =
          let r = get_or rs i d in
          record {
            low = omega (arith, low_there);
            edges_low = omega (arith, q.edges_low);
            alike = alike_trans q.alike (rw f (fold_alike keeps (run_links e r.check.0 r.bit.0 r.size) p));
            rest = rw en (turn_rest (layout p₀) p₀.runs i e q.rest low_there is_there);
            folded = rw en (turn_fold (layout p₀) p₀.runs i e q.rest low_there is_there step p q.folded f);
          }

-- ---- lists that are written from the front
-- its elements are the bytes of bits
pub record Packed (g : ℕ → ℕ) (out₀ : List ℕ) (i : ℕ) (out : List ℕ) : Type 0 where
  pub written : Written (byte g) out₀ i out

module _ {g : ℕ → ℕ} {out₀ : List ℕ} where
  pub packed_none : Packed g out₀ 0 out₀
  packed_none = record { written = written_none }

  pub packed_more : {i n x : ℕ} {out : List ℕ} → Packed g out₀ i out → i < n → n ≡ length out₀ → x ≡ byte (λ t. g (8 * i + t)) 0 → Packed g out₀ (i + 1) (set out i x)
  packed_more {i} r h e t = record { written = written_more r.written h e (t ∙ byte_from g i) }

  pub packed_all : {i n : ℕ} {out : List ℕ} → Packed g out₀ i out → n ≤ i → n ≡ length out₀ → out ≡ pack g (length out₀)
  unfolding pack
  packed_all r h e = written_all r.written h e

-- its elements are confidences: minus for a bit 1, and plus for a bit 0
pub record Unpacked {C : Type 0} (minus plus : C) (input : List ℕ) (to₀ : List C) (i : ℕ) (to : List C) : Type 0 where
  pub written : Written (λ k. pick (eqb (bit_at input k) 1) minus plus) to₀ i to

pub unpacked_asks : (i n k : ℕ) → i < n → n ≡ 8 * k → i / 8 < k
unpacked_asks i n k h e = omega arith

module _ {C : Type 0} {minus plus : C} {input : List ℕ} {to₀ : List C} where
  pub unpacked_none : Unpacked minus plus input to₀ 0 to₀
  unpacked_none = record { written = written_none }

  pub unpacked_in : {i n : ℕ} {to : List C} → Unpacked minus plus input to₀ i to → i < n → n ≡ length to₀ → i < length to
  unpacked_in r h e = written_in r.written h e

  pub unpacked_more : {i n : ℕ} {to : List C} {x : C} → Unpacked minus plus input to₀ i to → i < n → n ≡ length to₀ → x ≡ pick (eqb (bit_at input i) 1) minus plus
      → Unpacked minus plus input to₀ (i + 1) (set to i x)
  unpacked_more r h e t = record { written = written_more r.written h e t }

  pub unpacked : {i n : ℕ} {to : List C} → Unpacked minus plus input to₀ i to → n ≤ i → n ≡ length to₀ → length to₀ ≡ 8 * length input → to ≡ to_llrs minus plus input
  unfolding to_llrs
  unpacked r h e k = rw (← k) (written_all r.written h e)

pub read_is : (w : Width) (y x : ℤ) → y ≡ x → mag y < 2 ^ hbits w → to_z w (of_z w y) ≡ x
read_is w y x e k = back w y k ∙ e

-- ---- the passes, at turn i of n
pub record Trying {C : Type 0} (o : Confidence C) (n i : ℕ) (p₀ p : Parts C) : Type 0 where
  pub low : i ≤ n
  pub alike : Alike p₀ p
  pub ran : budget.run (turn_in o p₀) (n - i) i (held p) ≡ budget.run (turn_in o p₀) n 0 (held p₀)

-- parts that are alike have the same turn
pub turn_alike : {C : Type 0} (o : Confidence C) {p q : Parts C} → Alike p q → turn_in o q ≡ turn_in o p
turn_alike o z = rw (z.runs, z.marks, z.marginals, z.llrs)

module _ {C : Type 0} {o : Confidence C} {n : ℕ} where
  pub try_begins : {p : Parts C} → Trying o n 0 p p
  try_begins {p = p} = record { low = omega arith; alike = alike_refl; ran = run_first (turn_in o p) n (held p) }

  module _ {i : ℕ} {p₀ p : Parts C} (t : Trying o n i p₀ p) where
    pub try_out : n ≤ i → end false n (held p) ≡ budget.run (turn_in o p₀) n 0 (held p₀)
    try_out h = run_out (turn_in o p₀) n i (held p) t.ran t.low h

    module _ (b : Bool) (p' : Parts C) (h : i < n) (e : pick b (stop (held p')) (go (held p')) ≡ turn_in o p (held p)) where
      turned : pick b (stop (held p')) (go (held p')) ≡ turn_in o p₀ (held p)
      turned = e ∙ ap (λ (f : Messages C → Turn (Messages C)). f (held p)) (turn_alike o t.alike)

      pub try_stop : b ≡ true → end true i (held p') ≡ budget.run (turn_in o p₀) n 0 (held p₀)
      try_stop f = run_stop (turn_in o p₀) n i (held p) t.ran h (sym (rw f at turned))

      pub try_more : b ≡ false → Alike p p' → Trying o n (i + 1) p₀ p'
      try_more f z = record { low = omega arith; alike = alike_trans t.alike z; ran = run_more (turn_in o p₀) n i (held p) t.ran h (sym (rw f at turned)) }

pub ruleset loops = (run_begins, run_inside, run_again, run_ends, pass_begins, pass_inside, pass_again, pass_ends, rules)

pub ruleset unpacks = (unpacked_none, unpacked_asks, unpacked_in, unpacked_more, unpacked, read_is, rules)

pub ruleset tries = (try_begins, try_out, try_stop, try_more, rules)
