-- Pass 1 on confidences of one size: each marginal is the sum of the confidence given and of its messages. Assumes nothing.
use mathlib.Core.Bool.{Bool, false, not}
use mathlib.Core.List.{List, [], ◌∷◌, ◌++◌, append-nil}
use mathlib.Core.Path.{◌≡◌, refl, sym, ap, ◌∙◌, subst}
use Prim.Native.Nat.{ℕ, zero, suc, ◌≤◌, ◌<◌}
use native.Mathlib.Decide.{ℕ_discrete, dec_lt}
use native.Mathlib.Omega.{arith}
use borrow.Author.Tests.{eq-eqb, ne_eqb}
use lib.Dec.{T, eqb}
use lib.IntN.{ℤ, pos}
use lib.ListN.{length, get_or, set, length-set, length-append, length-replicate, get_or-replicate, get_or-eq_default, get_or-append}
use lib.Seq.{get_or-set_same, get_or-set_other}
use Rattle.maths.specs.Tests.{pick, all}
use Rattle.maths.specs.Lists.{fold}
use Rattle.maths.proofs.Slices.{replicate_at}
use Rattle.codes.specs.Edges.{Edge, in_range}
use Rattle.codes.specs.Equations.{bits_of, checks_of, par}
use Rattle.matrices.proofs.Edges.{ranged_first}
use Rattle.min_sum.specs.Soft.{add}
use Rattle.min_sum.specs.Confidence.{Confidence, whole}
use Rattle.min_sum.specs.MinSum.{link, numbered, Messages, at, hard_bits, new_u, add_message, restarted, renewed, start, pass}
use Rattle.min_sum.proofs.Marginals.{start_quiet, pass_marginals, first_hard}
use Rattle.min_sum.proofs.Success.{steady}
use Rattle.soft_flip.specs.OneSize.{level}
use Rattle.soft_flip.proofs.Saturated.{total, signs}
use Rattle.soft_flip.proofs.Levels.{level_add, zero-add as zero_sum, second_u, first_minimum, second_minimum}
use Rattle.soft_flip.proofs.First.{ones, oddly, added_v, Still, still_added, Ready, Held, held, minima, negative}

module _ (top k : ℕ) (fits : suc k ≤ top) where
  abbrev o : Confidence ℤ
  o = whole top

  -- ---- the first loop of pass 1, for a word r of n bits: what pass 0 left on the edges from number j on, and at the checks
  module _ (m n : ℕ) (r odd : ℕ → Bool) where
    record Heard (j : ℕ) (es : List Edge) (s : Messages ℤ) : Type 0 where
      held : Held top k fits m n r j es s.v
      first : (a : ℕ) → a < m → at o s.first a ≡ pos (suc k)
      second : (a : ℕ) → a < m → at o s.second a ≡ pos (suc k)
      negative : (a : ℕ) → a < m → get_or s.negative a false ≡ odd a
      long : length s.marginals ≡ n
      ranged : T (all (in_range m n) es)

    module _ (j : ℕ) (e : Edge) (es : List Edge) (s : Messages ℤ) (q : Heard j (e ∷ es) s) where
      within : (e.check < m) × (e.bit < n) × T (all (in_range m n) es)
      within = ranged_first m n e es q.ranged

      abbrev message : ℤ
      message = new_u o (at o s.v j) (at o s.first e.check) (at o s.second e.check) (get_or s.negative e.check false)

      abbrev sign : Bool
      sign = pick (odd e.check) (not (r e.bit)) (r e.bit)

      message_is : message ≡ level k sign
      message_is =
          rw (q.held.0, q.first e.check within.0, q.second e.check within.0, q.negative e.check within.0)
          (second_u top k fits (r e.bit) (odd e.check))

      abbrev after : Messages ℤ
      after = add_message o (link j e.check e.bit) s

      after_marginals : after.marginals ≡ set s.marginals e.bit (add top (at o s.marginals e.bit) (level k sign))
      unfolding add_message
      after_marginals = ap (λ (x : ℤ). set s.marginals e.bit (add top (at o s.marginals e.bit) x)) message_is

      heard_next : Heard (suc j) es after
      unfolding add_message
      heard_next = record {
        held = q.held.1;
        first = q.first;
        second = q.second;
        negative = q.negative;
        long = length-set s.marginals e.bit _ ∙ q.long;
        ranged = within.2;
      }

    summed : (i : ℕ) (j : ℕ) (es : List Edge) (s : Messages ℤ) → Heard j es s
        → at o (fold (add_message o) (numbered j es) s).marginals i ≡ total top k (signs odd (r i) (checks_of es i)) (at o s.marginals i)
    unfolding fold numbered total
    summed i j [] s q = refl
    summed i j (e ∷ es) s q =
        summed i (suc j) es (after j e es s q) (heard_next j e es s q)
        ∙ rw (after_marginals j e es s q) (go (ℕ_discrete e.bit i))
      where
        go : Dec (e.bit ≡ i)
            → total top k (signs odd (r i) (checks_of es i)) (at o (set s.marginals e.bit (add top (at o s.marginals e.bit) (level k (sign j e es s q)))) i)
            ≡ total top k (signs odd (r i) (pick (eqb e.bit i) (e.check ∷ checks_of es i) (checks_of es i))) (at o s.marginals i)
        go (no x) = rw (ne_eqb e.bit i x, get_or-set_other s.marginals e.bit i (add top (at o s.marginals e.bit) (level k (sign j e es s q))) (pos 0) (λ y. x (sym y)))
        go (yes x) =
            let low : e.bit < length s.marginals = omega (arith, within j e es s q, q.long) in
            let next = add top (at o s.marginals e.bit) (level k (sign j e es s q)) in
            let P : ℕ → Type 0 = λ v. total top k (signs odd (r v) (checks_of es v)) (at o (set s.marginals e.bit next) v)
            ≡ total top k (signs odd (r v) (pick (eqb e.bit v) (e.check ∷ checks_of es v) (checks_of es v))) (at o s.marginals v) in
            subst P x (rw (eq-eqb e.bit e.bit refl, get_or-set_same s.marginals e.bit next (pos 0) low))

  -- ---- pass 0 and then pass 1
  module _ (es : List Edge) (m n : ℕ) (ranged : T (all (in_range m n) es)) (two : (a : ℕ) → a < m → 2 ≤ length (bits_of es a))
      (llrs : List ℤ) (long : length llrs ≡ n) (r : ℕ → Bool) (given : (i : ℕ) → i < n → at o llrs i ≡ level k (r i)) where
    abbrev begun : Messages ℤ
    begun = restarted o llrs 0 (start o es m 0 llrs)

    abbrev odd : ℕ → Bool
    odd a = oddly (par es (ones r) a)

    whole_given : (i : ℕ) → i < n → at o (llrs ++ []) i ≡ level k (r i)
    whole_given i h = let l : i < length llrs = omega arith in get_or-append llrs [] (pos 0) i l ∙ given i h

    whole_long : length (llrs ++ []) ≡ n
    whole_long = length-append llrs [] ∙ omega arith

    still : (i : ℕ) → add top (at o (llrs ++ []) i) (pos 0) ≡ at o (llrs ++ []) i
    still i = go (dec_lt i n)
      where
        go : Dec (i < n) → add top (at o (llrs ++ []) i) (pos 0) ≡ at o (llrs ++ []) i
        go (yes h) = rw (whole_given i h) (level_add top k fits (r i))
        go (no h) =
            let l : length (llrs ++ []) ≤ i = omega (arith, whole_long) in
            rw (get_or-eq_default (llrs ++ []) (pos 0) {n = i} l) (zero_sum top k fits)

    begun_still : Still top k fits (at o (llrs ++ [])) begun
    unfolding start restarted
    begun_still = record { quiet = start_quiet o es m 0 llrs; u = replicate_at (length es) (pos 0); marginals = λ i. refl }

    abbrev added : Messages ℤ
    added = fold (add_message o) (numbered 0 es) begun

    added_still : Still top k fits (at o (llrs ++ [])) added
    added_still = still_added top k fits (at o (llrs ++ [])) still (numbered 0 es) begun begun_still

    added_long : length added.v ≡ length es
    unfolding start restarted
    added_long = ap length (added_v o (numbered 0 es) begun) ∙ length-replicate (length es) (pos 0)

    ready : Ready top k fits m n r 0 es (renewed o m added)
    unfolding renewed
    ready = record {
      u = added_still.u;
      v = λ i h. added_still.quiet.v i;
      marginals = λ i h. added_still.marginals i ∙ whole_given i h;
      long = omega (arith, added_long);
      firsts = length-replicate m (pos top);
      seconds = length-replicate m (pos top);
      negatives = length-replicate m false;
      ranged = ranged;
    }

    abbrev pass₀ : Messages ℤ
    pass₀ = pass o es m 0 llrs (start o es m 0 llrs)

    first_two : (c : ℕ) → 2 ≤ c → (first_minimum top k fits c ≡ pos (suc k)) × (second_minimum top k fits c ≡ pos (suc k))
    first_two zero h = absurd (omega arith)
    first_two (suc zero) h = absurd (omega arith)
    first_two (suc (suc c)) h = (refl, refl)

    least : (a : ℕ) → a < m → (at o pass₀.first a ≡ pos (suc k)) × (at o pass₀.second a ≡ pos (suc k))
    unfolding pass renewed
    least a h =
        let x = minima top k fits m n r a 0 es (renewed o m added) ready (get_or-replicate m a (pos top) (pos 0) h) (get_or-replicate m a (pos top) (pos 0) h) in
        let y = first_two (length (bits_of es a)) (two a h) in
        (x.0 ∙ y.0, x.1 ∙ y.1)

    heard : Heard m n r odd 0 es (restarted o llrs 0 pass₀)
    unfolding restarted pass renewed
    heard = record {
      held = held top k fits m n r 0 es (renewed o m added) ready;
      first = λ a h. (least a h).0;
      second = λ a h. (least a h).1;
      negative = λ a h. negative top k fits m n r a 0 es (renewed o m added) ready (get_or-replicate m a false false h);
      long = whole_long;
      ranged = ranged;
    }

    -- each marginal of pass 1
    pub second_marginals : (i : ℕ) → i < n
        → at o (pass o es m 0 llrs pass₀).marginals i ≡ total top k (signs odd (r i) (checks_of es i)) (level k (r i))
    unfolding restarted
    second_marginals i h =
        ap (λ (xs : List ℤ). at o xs i) (pass_marginals o es m 0 llrs pass₀)
        ∙ summed m n r odd i 0 es (restarted o llrs 0 pass₀) heard
        ∙ ap (total top k (signs odd (r i) (checks_of es i))) (whole_given i h)

-- the hard bits of pass 0 are those of the LLRs
pub first_bits : (top : ℕ) (es : List Edge) (m : ℕ) (llrs : List ℤ) (i : ℕ)
    → hard_bits (whole top) (pass (whole top) es m 0 llrs (start (whole top) es m 0 llrs)).marginals i ≡ hard_bits (whole top) llrs i
first_bits top es m llrs i =
    ap (λ (b : Bool). pick b 1 0) (first_hard (whole top) (steady top) es m 0 llrs (λ j. tt) i) ∙ ap (λ (xs : List ℤ). hard_bits (whole top) xs i) (append-nil llrs)
