-- Pass 0 on confidences of one magnitude: what it leaves on each edge and at each check. Assumes nothing.
use mathlib.Core.Bool.{Bool, true, false, not}
use mathlib.Core.List.{List, [], ◌∷◌}
use mathlib.Core.Path.{◌≡◌, refl, sym, ap, ◌∙◌}
use Prim.Native.Nat.{ℕ, suc, ◌+◌, ◌%◌, ◌≤◌, ◌<◌}
use native.Mathlib.Nat.{zero-add, add-zero}
use native.Mathlib.Decide.{ℕ_discrete}
use native.Mathlib.Omega.{arith}
use borrow.Author.Tests.{eq-eqb, ne_eqb}
use lib.Dec.{T, eqb}
use lib.IntN.{ℤ, pos}
use lib.ListN.{length, get_or, set, length-set}
use lib.Seq.{get_or-set_same, get_or-set_other}
use Rattle.maths.specs.Tests.{pick, all}
use Rattle.maths.specs.Lists.{fold}
use Rattle.maths.specs.Sums.{sum_l}
use Rattle.maths.proofs.Stores.{set_each}
use Rattle.codes.specs.Edges.{Edge, in_range}
use Rattle.codes.specs.Equations.{bits_of, par}
use Rattle.matrices.proofs.Edges.{ranged_first}
use Rattle.min_sum.specs.Soft.{add, magnitude, hard}
use Rattle.min_sum.specs.Confidence.{Confidence, whole}
use Rattle.min_sum.specs.MinSum.{Link, link, numbered, Messages, at, new_u, new_v, new_first, new_second, add_message, take_message}
use Rattle.min_sum.proofs.Marginals.{Quiet, quiet_u}
use Rattle.min_sum.proofs.Success.{steady}
use Rattle.soft_flip.specs.OneSize.{level}
use Rattle.soft_flip.proofs.Levels.{level_hard, level_size, first_v, first_minimum, second_minimum, first_step, second_step}

-- the bits as numbers, and whether a number is odd
abbrev pub ones : (ℕ → Bool) → ℕ → ℕ
ones r i = pick (r i) 1 0

abbrev pub oddly : ℕ → Bool
oddly p = eqb (p % 2) 1

odd_more : (b : Bool) (p : ℕ) → pick b (not (oddly p)) (oddly p) ≡ oddly (p + pick b 1 0)
odd_more false p = rw (add-zero p)
odd_more true p = go (ℕ_discrete (p % 2) 1)
  where
    go : Dec (p % 2 ≡ 1) → not (oddly p) ≡ oddly (p + 1)
    go (yes e) = rw (eq-eqb (p % 2) 1 e, ne_eqb ((p + 1) % 2) 1 (λ f. omega arith))
    go (no e) = rw (ne_eqb (p % 2) 1 e, eq-eqb ((p + 1) % 2) 1 (omega arith))

-- ---- the first loop leaves all but u and the marginals
module _ {C : Type 0} (o : Confidence C) where
  pub added_v : (ls : List Link) (s : Messages C) → (fold (add_message o) ls s).v ≡ s.v
  unfolding fold add_message
  added_v [] s = refl
  added_v (e ∷ ls) s = added_v ls (add_message o e s)

module _ (top k : ℕ) (fits : suc k ≤ top) where
  abbrev o : Confidence ℤ
  o = whole top

  -- ---- the first loop of pass 0: every message stays 0, and the marginals stay as given
  pub record Still (given : ℕ → ℤ) (s : Messages ℤ) : Type 0 where
    pub quiet : Quiet o s
    pub u : (i : ℕ) → at o s.u i ≡ pos 0
    pub marginals : (i : ℕ) → at o s.marginals i ≡ given i

  module _ (given : ℕ → ℤ) (same : (i : ℕ) → add top (given i) (pos 0) ≡ given i) where
    still_step : (e : Link) (s : Messages ℤ) → Still given s → Still given (add_message o e s)
    unfolding add_message
    still_step e s q =
        let z = q.quiet in
        let x = new_u o (at o s.v e.number) (at o s.first e.check) (at o s.second e.check) (get_or s.negative e.check false) in
        let ex : x ≡ pos 0 = quiet_u o (steady top) (z.v e.number) (z.first e.check) (z.second e.check) (z.negative e.check) in
        let em : add top (at o s.marginals e.bit) x ≡ given e.bit = rw (ex, q.marginals e.bit) (same e.bit) in
        record {
          quiet = record { v = z.v; first = z.first; second = z.second; negative = z.negative };
          u = set_each (λ i y. y ≡ pos 0) s.u e.number x (pos 0) ex q.u;
          marginals = set_each (λ i y. y ≡ given i) s.marginals e.bit (add top (at o s.marginals e.bit) x) (pos 0) em q.marginals;
        }

    pub still_added : (ls : List Link) (s : Messages ℤ) → Still given s → Still given (fold (add_message o) ls s)
    unfolding fold
    still_added [] s q = q
    still_added (e ∷ ls) s q = still_added ls (add_message o e s) (still_step e s q)

  -- ---- the second loop of pass 0, for a word r of n bits and m checks
  module _ (m n : ℕ) (r : ℕ → Bool) where
    pub record Ready (j : ℕ) (es : List Edge) (s : Messages ℤ) : Type 0 where
      pub u : (i : ℕ) → at o s.u i ≡ pos 0
      pub v : (i : ℕ) → j ≤ i → at o s.v i ≡ pos 0
      pub marginals : (i : ℕ) → i < n → at o s.marginals i ≡ level k (r i)
      pub long : j + length es ≤ length s.v
      pub firsts : length s.first ≡ m
      pub seconds : length s.second ≡ m
      pub negatives : length s.negative ≡ m
      pub ranged : T (all (in_range m n) es)

    -- the state after an edge whose bit is b
    abbrev next : ℕ → Edge → Bool → Messages ℤ → Messages ℤ
    next j e b s = record {
      u = s.u;
      v = set s.v j (level k b);
      marginals = s.marginals;
      first = set s.first e.check (new_first o (pos (suc k)) (at o s.first e.check));
      second = set s.second e.check (new_second o (pos (suc k)) (at o s.first e.check) (at o s.second e.check));
      negative = set s.negative e.check (pick b (not (get_or s.negative e.check false)) (get_or s.negative e.check false));
    }

    abbrev taken : ℕ → Edge → ℤ → ℤ → Bool → Messages ℤ → Messages ℤ
    taken j e x y b s = record {
      u = s.u;
      v = set s.v j x;
      marginals = s.marginals;
      first = set s.first e.check (new_first o y (at o s.first e.check));
      second = set s.second e.check (new_second o y (at o s.first e.check) (at o s.second e.check));
      negative = set s.negative e.check (pick b (not (get_or s.negative e.check false)) (get_or s.negative e.check false));
    }

    taken_level : (j : ℕ) (e : Edge) (s : Messages ℤ) (x : ℤ) (b : Bool) → x ≡ level k b → taken j e x (magnitude top x) (hard x) s ≡ next j e b s
    taken_level j e s x b p =
        ap (λ (y : ℤ). taken j e y (magnitude top y) (hard y) s) p
        ∙ ap (λ (y : ℤ). taken j e (level k b) y (hard (level k b)) s) (level_size top k fits b)
        ∙ ap (λ (c : Bool). taken j e (level k b) (pos (suc k)) c s) (level_hard k b)

    module _ (j : ℕ) (e : Edge) (es : List Edge) (s : Messages ℤ) (q : Ready j (e ∷ es) s) where
      within : (e.check < m) × (e.bit < n) × T (all (in_range m n) es)
      within = ranged_first m n e es q.ranged

      new_level : new_v o (at o s.marginals e.bit) (at o s.u j) (at o s.v j) ≡ level k (r e.bit)
      new_level = rw (q.marginals e.bit within.1, q.u j, q.v j (omega arith)) (first_v top k fits (r e.bit))

      take_next : take_message o (link j e.check e.bit) s ≡ next j e (r e.bit) s
      unfolding take_message
      take_next = taken_level j e s (new_v o (at o s.marginals e.bit) (at o s.u j) (at o s.v j)) (r e.bit) new_level

      ready_next : Ready (suc j) es (next j e (r e.bit) s)
      ready_next = record {
        u = q.u;
        v = λ i h. get_or-set_other s.v j i (level k (r e.bit)) (pos 0) (λ p. omega arith) ∙ q.v i (omega arith);
        marginals = q.marginals;
        long = omega (arith, length-set s.v j (level k (r e.bit)), q.long);
        firsts = length-set s.first e.check _ ∙ q.firsts;
        seconds = length-set s.second e.check _ ∙ q.seconds;
        negatives = length-set s.negative e.check _ ∙ q.negatives;
        ranged = within.2;
      }

    abbrev last : ℕ → List Edge → Messages ℤ → Messages ℤ
    last j es s = fold (take_message o) (numbered j es) s

    last_next : (j : ℕ) (e : Edge) (es : List Edge) (s : Messages ℤ) → Ready j (e ∷ es) s → last j (e ∷ es) s ≡ last (suc j) es (next j e (r e.bit) s)
    unfolding fold numbered
    last_next j e es s q = ap (last (suc j) es) (take_next j e es s q)

    last_none : (j : ℕ) (s : Messages ℤ) → last j [] s ≡ s
    unfolding fold numbered
    last_none j s = refl

    -- the messages v
    early : (j : ℕ) (es : List Edge) (s : Messages ℤ) → Ready j es s → (i : ℕ) → i < j → at o (last j es s).v i ≡ at o s.v i
    early j [] s q i h = rw (last_none j s)
    early j (e ∷ es) s q i h =
        ap (λ (t : Messages ℤ). at o t.v i) (last_next j e es s q)
        ∙ early (suc j) es (next j e (r e.bit) s) (ready_next j e es s q) i (omega arith)
        ∙ get_or-set_other s.v j i (level k (r e.bit)) (pos 0) (λ p. omega arith)

    abbrev pub Held : ℕ → List Edge → List ℤ → Type 0
    Held j [] vs = T true
    Held j (e ∷ es) vs = (at o vs j ≡ level k (r e.bit)) × Held (suc j) es vs

    pub held : (j : ℕ) (es : List Edge) (s : Messages ℤ) → Ready j es s → Held j es (last j es s).v
    held j [] s q = tt
    held j (e ∷ es) s q =
        let s' = next j e (r e.bit) s in
        let q' = ready_next j e es s q in
        let low : j < length s.v = omega (arith, q.long) in
        rw (last_next j e es s q)
        (early (suc j) es s' q' j (omega arith) ∙ get_or-set_same s.v j (level k (r e.bit)) (pos 0) low, held (suc j) es s' q')

    -- ---- what a check holds: a step for each of its bits, in order
    module _ (a : ℕ) where
      stepped : {X : Type 0} (part : Messages ℤ → X) (step : Bool → X → X)
          → ((j : ℕ) (e : Edge) (es : List Edge) (s : Messages ℤ) → Ready j (e ∷ es) s → e.check ≡ a → part (next j e (r e.bit) s) ≡ step (r e.bit) (part s))
          → ((j : ℕ) (e : Edge) (b : Bool) (s : Messages ℤ) → (a ≡ e.check → ⊥) → part (next j e b s) ≡ part s)
          → (j : ℕ) (es : List Edge) (s : Messages ℤ) → Ready j es s → part (last j es s) ≡ fold (λ v x. step (r v) x) (bits_of es a) (part s)
      unfolding fold
      stepped part step here there j [] s q = ap part (last_none j s)
      stepped part step here there j (e ∷ es) s q =
          ap part (last_next j e es s q)
          ∙ stepped part step here there (suc j) es (next j e (r e.bit) s) (ready_next j e es s q)
          ∙ go (ℕ_discrete e.check a)
        where
          go : Dec (e.check ≡ a)
              → fold (λ v x. step (r v) x) (bits_of es a) (part (next j e (r e.bit) s))
              ≡ fold (λ v x. step (r v) x) (pick (eqb e.check a) (e.bit ∷ bits_of es a) (bits_of es a)) (part s)
          go (yes p) = rw (eq-eqb e.check a p) (ap (fold (λ v x. step (r v) x) (bits_of es a)) (here j e es s q p))
          go (no p) = rw (ne_eqb e.check a p) (ap (fold (λ v x. step (r v) x) (bits_of es a)) (there j e (r e.bit) s (λ x. p (sym x))))

      -- the minima, by the number of its bits
      abbrev held_by : Messages ℤ → ℤ × ℤ
      held_by s = (at o s.first a, at o s.second a)

      abbrev lowered : Bool → ℤ × ℤ → ℤ × ℤ
      lowered b (x, y) = (new_first o (pos (suc k)) x, new_second o (pos (suc k)) x y)

      lowered_all : (vs : List ℕ) (c : ℕ) → fold (λ v. lowered (r v)) vs (first_minimum top k fits c, second_minimum top k fits c)
          ≡ (first_minimum top k fits (length vs + c), second_minimum top k fits (length vs + c))
      unfolding fold
      lowered_all [] c = rw (zero-add c)
      lowered_all (v ∷ vs) c =
          let e : suc (length vs) + c ≡ length vs + suc c = omega arith in
          rw (first_step top k fits c, second_step top k fits c, e) (lowered_all vs (suc c))

      pub minima : (j : ℕ) (es : List Edge) (s : Messages ℤ) → Ready j es s → at o s.first a ≡ first_minimum top k fits 0 → at o s.second a ≡ second_minimum top k fits 0
          → let c = length (bits_of es a) in (at o (last j es s).first a ≡ first_minimum top k fits c) × (at o (last j es s).second a ≡ second_minimum top k fits c)
      minima j es s q f g =
          let c = length (bits_of es a) in
          let z : c + 0 ≡ c = add-zero c in
          let all : ◌≡◌ {A = ℤ × ℤ} (fold (λ v. lowered (r v)) (bits_of es a) (held_by s)) (first_minimum top k fits c, second_minimum top k fits c) =
          rw (f, g) (rw z at (lowered_all (bits_of es a) 0)) in
          let both = stepped held_by lowered here there j es s q ∙ all in
          (ap (λ (z : ℤ × ℤ). z.0) both, ap (λ (z : ℤ × ℤ). z.1) both)
        where
          here : (j : ℕ) (e : Edge) (es : List Edge) (s : Messages ℤ) → Ready j (e ∷ es) s → e.check ≡ a
              → held_by (next j e (r e.bit) s) ≡ lowered (r e.bit) (held_by s)
          here j e es s q p =
              let x = new_first o (pos (suc k)) (at o s.first e.check) in
              let y = new_second o (pos (suc k)) (at o s.first e.check) (at o s.second e.check) in
              let f : at o (set s.first e.check x) e.check ≡ x = get_or-set_same s.first e.check x (pos 0) (omega (arith, within j e es s q, q.firsts)) in
              let g : at o (set s.second e.check y) e.check ≡ y = get_or-set_same s.second e.check y (pos 0) (omega (arith, within j e es s q, q.seconds)) in
              rw (← p, f, g)

          there : (j : ℕ) (e : Edge) (b : Bool) (s : Messages ℤ) → (a ≡ e.check → ⊥) → held_by (next j e b s) ≡ held_by s
          there j e b s ne = rw (get_or-set_other s.first e.check a _ (pos 0) ne, get_or-set_other s.second e.check a _ (pos 0) ne)

      -- the sign product, by their sum
      abbrev flip_if : Bool → Bool → Bool
      flip_if b x = pick b (not x) x

      flip_if_all : (vs : List ℕ) (p : ℕ) → fold (λ v. flip_if (r v)) vs (oddly p) ≡ oddly (p + sum_l vs (ones r))
      unfolding fold
      flip_if_all [] p = rw (add-zero p)
      flip_if_all (v ∷ vs) p =
          let e : p + (ones r v + sum_l vs (ones r)) ≡ p + ones r v + sum_l vs (ones r) = omega arith in
          rw (odd_more (r v) p, e) (flip_if_all vs (p + ones r v))

      pub negative : (j : ℕ) (es : List Edge) (s : Messages ℤ) → Ready j es s → get_or s.negative a false ≡ false
          → get_or (last j es s).negative a false ≡ oddly (par es (ones r) a)
      negative j es s q f =
          stepped (λ t. get_or t.negative a false) flip_if here (λ j e b s ne. get_or-set_other s.negative e.check a _ false ne) j es s q
          ∙ rw f (flip_if_all (bits_of es a) 0 ∙ rw (zero-add (par es (ones r) a)))
        where
          here : (j : ℕ) (e : Edge) (es : List Edge) (s : Messages ℤ) → Ready j (e ∷ es) s → e.check ≡ a
              → get_or (next j e (r e.bit) s).negative a false ≡ flip_if (r e.bit) (get_or s.negative a false)
          here j e es s q p =
              let x = flip_if (r e.bit) (get_or s.negative e.check false) in
              rw (← p) (get_or-set_same s.negative e.check x false (omega (arith, within j e es s q, q.negatives)))
