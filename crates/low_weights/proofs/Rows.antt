-- Lists by rows: toggled row by row, and what stands in them beyond so many to a row. Assumes nothing.
use mathlib.Core.Bool.{Bool, false}
use mathlib.Core.Path.{◌≡◌, refl, sym, ap, ap₂, ◌∙◌, subst}
use mathlib.Core.List.{List, [], ◌∷◌, map}
use Prim.Native.Nat.{ℕ, zero, suc, ◌+◌, ◌-◌, ◌*◌, ◌≤◌, ◌<◌}
use native.Mathlib.Nat.{mul-add, mul-one, mul-le-mul_left}
use native.Mathlib.Omega.{arith}
use lib.Dec.{T}
use lib.ListN.{length, get_or, drop, length-map}
use Rattle.maths.specs.Sums.{sum_n}
use Rattle.maths.proofs.Sums.{sum_n_ext, sum_n_le, sum_n_add}
use Rattle.maths.proofs.Ones.{delta_self}
use Rattle.low_weights.proofs.Occurs.{occurs, toggles}

-- the numbers of each row of one toggled in that row of the other
abbrev pub toggle_rows : List (List ℕ) → List (List ℕ) → List (List ℕ)
toggle_rows [] rows = rows
toggle_rows (cs ∷ css) [] = toggles cs [] ∷ toggle_rows css []
toggle_rows (cs ∷ css) (row ∷ rows) = toggles cs row ∷ toggle_rows css rows

pub toggle_rows_at : (css rows : List (List ℕ)) (a : ℕ) → get_or (toggle_rows css rows) a [] ≡ toggles (get_or css a []) (get_or rows a [])
toggle_rows_at [] rows a = refl
toggle_rows_at (cs ∷ css) [] zero = refl
toggle_rows_at (cs ∷ css) [] (suc a) = toggle_rows_at css [] a
toggle_rows_at (cs ∷ css) (row ∷ rows) zero = refl
toggle_rows_at (cs ∷ css) (row ∷ rows) (suc a) = toggle_rows_at css rows a

-- a test of the first number of the first row that has one
abbrev pub first : (ℕ → Bool) → List (List ℕ) → Bool
first f [] = false
first f ([] ∷ rows) = first f rows
first f ((c ∷ cs) ∷ rows) = f c

pub first_found : (f : ℕ → Bool) (rows : List (List ℕ)) → T (first f rows) → (a : ℕ) × (c : ℕ) × (0 < occurs (get_or rows a []) c) × T (f c)
first_found f [] t = absurd t
first_found f ([] ∷ rows) t = let z = first_found f rows t in (suc z.0, z.1, z.2, z.3)
first_found f ((c ∷ cs) ∷ rows) t = (zero, c, omega (arith, delta_self c), t)

-- how many stand beyond r in each row, in all
abbrev pub excess : {A : Type 0} → ℕ → List (List A) → ℕ
excess r [] = 0
excess r (row ∷ rows) = length row - r + excess r rows

pub excess_map : {A B : Type 0} (h : A → B) (r : ℕ) (rows : List (List A)) → excess r (map (map h) rows) ≡ excess r rows
excess_map h r [] = refl
excess_map h r (row ∷ rows) = ap₂ (λ (x y : ℕ). x - r + y) (length-map row h) (excess_map h r rows)

excess_head : {A : Type 0} (rows : List (List A)) → length (get_or rows 0 []) - 1 + excess 1 (drop 1 rows) ≡ excess 1 rows
excess_head [] = refl
excess_head (row ∷ rows) = refl

-- the rows but the first
later : {A : Type 0} (rows : List (List A)) (a : ℕ) → length (get_or rows (suc a) []) ≡ length (get_or (drop 1 rows) a [])
later [] a = refl
later (row ∷ rows) a = refl

-- rows no longer than the rows of at most r lists together have no more beyond r than those have beyond 1
pub excess_below : {A B : Type 0} (n r : ℕ) (w : ℕ → ℕ) → sum_n n w ≤ r → (rows : List (List A)) (lists : ℕ → List (List B))
    → ((a : ℕ) → length (get_or rows a []) ≤ sum_n n (λ v. w v * length (get_or (lists v) a [])))
    → excess r rows ≤ sum_n n (λ v. w v * excess 1 (lists v))
excess_below n r w light [] lists h = omega arith
excess_below n r w light (row ∷ rows) lists h =
    let rest = excess_below n r w light rows (λ v. drop 1 (lists v))
    (λ a. subst (λ (x : ℕ). length (get_or rows a []) ≤ x) (sum_n_ext n _ _ (λ v l. ap (λ (k : ℕ). w v * k) (later (lists v) a))) (h (suc a))) in
    let beyond : ℕ → ℕ = λ v. length (get_or (lists v) 0 []) - 1 in
    let here = sum_n_le n (λ v. w v * length (get_or (lists v) 0 [])) (λ v. w v + w v * beyond v) (λ v l. part v) in
    let all = sum_n_ext n (λ v. w v * beyond v + w v * excess 1 (drop 1 (lists v))) (λ v. w v * excess 1 (lists v))
    (λ v l. sym (mul-add (w v) (beyond v) (excess 1 (drop 1 (lists v)))) ∙ ap (λ (x : ℕ). w v * x) (excess_head (lists v))) in
    omega (
      arith,
      h 0,
      here,
      sum_n_add n w (λ v. w v * beyond v),
      rest,
      sum_n_add n (λ v. w v * beyond v) (λ v. w v * excess 1 (drop 1 (lists v))),
      all,
    )
  where
    part : (v : ℕ) → w v * length (get_or (lists v) 0 []) ≤ w v + w v * (length (get_or (lists v) 0 []) - 1)
    part v =
        let l = length (get_or (lists v) 0 []) in
        let m : l ≤ 1 + (l - 1) = omega arith in
        omega (arith, mul-le-mul_left (w v) m, mul-add (w v) 1 (l - 1), mul-one (w v))
