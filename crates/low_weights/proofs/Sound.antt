-- What the search does not find is not there. Assumes nothing.
use mathlib.Core.Bool.{Bool, true, false}
use mathlib.Core.Logic.{◌⊎◌, inl, inr}
use mathlib.Core.Path.{◌≡◌, refl, sym, ap, ◌∙◌, fun_ext}
use mathlib.Core.List.{List, [], ◌∷◌}
use Prim.Native.Nat.{ℕ, zero, suc, ◌+◌, ◌*◌, ◌%◌, ◌≤◌, ◌<◌}
use native.Mathlib.Nat.{mul_comm, mul-le-mul_left}
use native.Mathlib.Decide.{ℕ_discrete}
use native.Mathlib.Omega.{arith}
use lib.Dec.{T, eqb, ltb, ltb→lt}
use lib.ListN.{length, get_or}
use borrow.Author.Tests.{eqb-true}
use Rattle.maths.specs.Tests.{pick, all}
use Rattle.maths.specs.Search.{either}
use Rattle.maths.specs.Sums.{sum_l, sum_n}
use Rattle.maths.specs.Ones.{delta}
use Rattle.maths.proofs.Tests.{both_left, both_right}
use Rattle.maths.proofs.Search.{either_cases}
use Rattle.maths.proofs.Sums.{sum_l_add, sum_l_mul, sum_l_sum_n, sum_n_ext, sum_n_le, sum_n_add, sum_n_mul}
use Rattle.maths.proofs.Ones.{delta_swap, sum_counts, sum_delta}
use Rattle.low_weights.proofs.Occurs.{occurs, Once, toggles_occurs, length_below, occurs_within}
use Rattle.low_weights.proofs.Rows.{toggle_rows, toggle_rows_at, first, first_found, excess, excess_below}
use Rattle.low_weights.proofs.Search.{member, shut, branch, none}

-- an odd sum of bits has a one among its places
odd_place : (n : ℕ) (g : ℕ → Bool) (w : ℕ → ℕ) → ((v : ℕ) → w v < 2) → (vs : List ℕ) → T (all g vs) → T (all (λ v. ltb v n) vs)
    → sum_l vs w % 2 ≡ 1 → (u : ℕ) × (u < n) × (w u ≡ 1) × T (g u)
odd_place n g w bit [] t low odd = absurd (omega arith)
odd_place n g w bit (v ∷ vs) t low odd =
    go (ℕ_discrete (w v) 1) (odd_place n g w bit vs (both_right (g v) (all g vs) t) (both_right (ltb v n) (all (λ v. ltb v n) vs) low))
  where
    go : Dec (w v ≡ 1) → (sum_l vs w % 2 ≡ 1 → (u : ℕ) × (u < n) × (w u ≡ 1) × T (g u)) → (u : ℕ) × (u < n) × (w u ≡ 1) × T (g u)
    go (yes e) next = (v, ltb→lt v n (both_left (ltb v n) (all (λ v. ltb v n) vs) low), e, both_left (g v) (all g vs) t)
    go (no e) next = next (omega (arith, bit v))

sum_one : (n u : ℕ) → u < n → sum_n n (delta u) ≡ 1
sum_one n u h = sum_n_ext n (delta u) (λ i. 1 * delta i u) (λ i l. omega (arith, delta_swap u i)) ∙ sum_delta (λ i. 1) u n h

-- the word without the one at u
abbrev pub without : ℕ → (ℕ → ℕ) → ℕ → ℕ
without u w v = pick (eqb v u) 0 (w v)

without_add : (u : ℕ) (w : ℕ → ℕ) → w u ≡ 1 → (v : ℕ) → w v ≡ without u w v + delta u v
without_add u w one v = go (eqb v u) refl
  where
    go : (b : Bool) → eqb v u ≡ b → w v ≡ pick b 0 (w v) + pick b 1 0
    go true e = ap w (eqb-true v u e) ∙ one
    go false e = omega arith

taken : (n : ℕ) (w : ℕ → ℕ) (u : ℕ) → u < n → w u ≡ 1 → sum_n n w ≡ sum_n n (without u w) + 1
taken n w u hu one =
    omega (
      arith,
      sum_n_ext n w (λ v. without u w v + delta u v) (λ v h. without_add u w one v),
      sum_n_add n (without u w) (delta u),
      sum_one n u hu,
    )

-- the bits of a check that is in row a
abbrev pub bits_at : (ℕ → List ℕ) → (ℕ → ℕ) → ℕ → ℕ → List ℕ
bits_at bits row a c = pick (eqb (row c) a) (bits c) []

-- checks, each in a row, and bits by the lists of their ends, which agree; a bit has at most so many beyond one in a row
module _ (bits : ℕ → List ℕ) (checks : ℕ → List (List ℕ)) (row : ℕ → ℕ) (most start n : ℕ)
    (dual : (u c a : ℕ) → u < n → occurs (get_or (checks u) a []) c ≡ occurs (bits_at bits row a c) u)
    (low : (c : ℕ) → T (all (λ v. ltb v n) (bits c)))
    (few : (u : ℕ) → u < n → excess 1 (checks u) ≤ most) where
  -- what is left of a word at a place of the search
  pub record Left (r : ℕ) (chosen : List ℕ) (odd : List (List ℕ)) (w : ℕ → ℕ) : Type 0 where
    pub bit : (v : ℕ) → w v < 2
    pub away : (v : ℕ) → T (shut bits checks most start chosen v) → w v ≡ 0
    pub light : sum_n n w ≤ r
    pub same : (a c : ℕ) → occurs (get_or odd a []) c ≡ sum_l (bits_at bits row a c) w % 2

  module _ (r : ℕ) (chosen : List ℕ) (odd : List (List ℕ)) (w : ℕ → ℕ) (left : Left r chosen odd w) where
    once : (a : ℕ) → Once (get_or odd a [])
    once a c = omega (arith, left.same a c)

    -- no more checks of a row are odd than the ones have there
    row_room : (a : ℕ) → length (get_or odd a []) ≤ sum_n n (λ v. w v * length (get_or (checks v) a []))
    row_room a =
        let odds = get_or odd a [] in
        let each = length_below odds (λ c. sum_l (bits_at bits row a c) w) (λ c. omega (arith, left.same a c)) in
        let by_bits =
        ap (sum_l odds) (fun_ext (λ c. sum_counts n (bits_at bits row a c) w (low_at (eqb (row c) a) c)))
        ∙ sum_l_sum_n n odds (λ v c. w v * occurs (bits_at bits row a c) v)
        ∙ sum_n_ext n _ _ (λ v h.
        sum_l_mul (w v) odds (λ c. occurs (bits_at bits row a c) v) ∙ ap (λ (f : ℕ → ℕ). w v * sum_l odds f) (fun_ext (λ c. sym (dual v c a h)))) in
        omega (
          arith,
          each,
          by_bits,
          sum_n_le n (λ v. w v * sum_l odds (occurs (get_or (checks v) a []))) (λ v. w v * length (get_or (checks v) a []))
              (λ v h. mul-le-mul_left (w v) (occurs_within odds (get_or (checks v) a []) (once a))),
        )
      where
        low_at : (x : Bool) (c : ℕ) → T (all (λ v. ltb v n) (pick x (bits c) []))
        low_at true c = low c
        low_at false c = tt

    room : excess r odd ≤ most * r
    room =
        omega (
          arith,
          excess_below n r w left.light odd checks row_room,
          sum_n_le n (λ v. w v * excess 1 (checks v)) (λ v. most * w v) (λ v h. omega (arith, mul-le-mul_left (w v) (few v h), mul_comm (w v) most)),
          sum_n_mul most n w,
          mul-le-mul_left most left.light,
        )

  -- a one taken out
  pub step : (r : ℕ) (chosen : List ℕ) (odd : List (List ℕ)) (w : ℕ → ℕ) → Left (suc r) chosen odd w → (u : ℕ) → u < n → w u ≡ 1
      → Left r (u ∷ chosen) (toggle_rows (checks u) odd) (without u w)
  step r chosen odd w left u hu one =
      record {
        bit = λ v. omega (arith, without_add u w one v, left.bit v);
        away = away;
        light = omega (arith, taken n w u hu one, left.light);
        same = λ a c.
            let vs = bits_at bits row a c in
            let split = ap (sum_l vs) (fun_ext (without_add u w one)) ∙ sum_l_add vs (without u w) (delta u) in
            rw (toggle_rows_at (checks u) odd a)
            (omega (arith, split, toggles_occurs (get_or (checks u) a []) (get_or odd a []) (once (suc r) chosen odd w left a) c, dual u c a hu, left.same a c));
      }
    where
      away : (v : ℕ) → T (shut bits checks most start (u ∷ chosen) v) → without u w v ≡ 0
      away v t = go (ltb v start) (eqb v u) t (left.away v)
        where
          go : (a b : Bool) → T (either a (elim b [ true ↦ true | false ↦ member v chosen ])) → (T (either a (member v chosen)) → w v ≡ 0)
              → pick b 0 (w v) ≡ 0
          go a true t gone = refl
          go true false t gone = gone tt
          go false false t gone = gone t

  -- the first odd check has a one left
  first_one : (r : ℕ) (chosen : List ℕ) (odd : List (List ℕ)) (w : ℕ → ℕ) → Left r chosen odd w → (f g : ℕ → Bool)
      → ((c : ℕ) → T (f c) → T (all g (bits c))) → T (first f odd) → (u : ℕ) × (u < n) × (w u ≡ 1) × T (g u)
  first_one r chosen odd w left f g each t =
      let z = first_found f odd t in
      odd_place n g w left.bit (bits z.1) (each z.1 z.3) (low z.1) (is_odd z.0 z.1 z.2)
    where
      is_odd : (a c : ℕ) → 0 < occurs (get_or odd a []) c → sum_l (bits c) w % 2 ≡ 1
      is_odd a c some = go (eqb (row c) a) (left.same a c)
        where
          go : (x : Bool) → occurs (get_or odd a []) c ≡ sum_l (pick x (bits c) []) w % 2 → sum_l (bits c) w % 2 ≡ 1
          go true e = omega arith
          go false e = absurd (omega arith)

  pub sound : (r : ℕ) (chosen : List ℕ) (odd : List (List ℕ)) (w : ℕ → ℕ) → Left r chosen odd w → T (none bits checks most start r chosen odd) → ⊥
  sound zero chosen odd w left t =
      let f = first_one zero chosen odd w left (λ c. true) (λ v. ltb v n) (λ c _. low c) t in
      omega (arith, taken n w f.0 f.1 f.2, left.light)
  sound (suc r) chosen odd w left t = go (either_cases (ltb (most * suc r) (excess (suc r) odd)) _ t) (sound r)
    where
      go : T (ltb (most * suc r) (excess (suc r) odd)) ⊎ T (branch bits checks most start (none bits checks most start r) chosen odd)
          → ((chosen : List ℕ) (odd : List (List ℕ)) (w : ℕ → ℕ) → Left r chosen odd w → T (none bits checks most start r chosen odd) → ⊥) → ⊥
      go (inl h) next = omega (arith, ltb→lt (most * suc r) (excess (suc r) odd) h, room (suc r) chosen odd w left)
      go (inr h) next =
          let f = first_one (suc r) chosen odd w left _ _ (λ c each. each) h in
          at_one f.0 f.1 f.2 (either_cases (shut bits checks most start chosen f.0) _ f.3)
        where
          at_one : (u : ℕ) → u < n → w u ≡ 1
              → T (shut bits checks most start chosen u) ⊎ T (none bits checks most start r (u ∷ chosen) (toggle_rows (checks u) odd)) → ⊥
          at_one u hu one (inl m) = omega (arith, left.away u m)
          at_one u hu one (inr m) = next (u ∷ chosen) (toggle_rows (checks u) odd) (without u w) (step r chosen odd w left u hu one) m
