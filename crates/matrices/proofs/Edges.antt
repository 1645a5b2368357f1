-- Laws of any list of edges: the ends of its edges, the words that its equations read, and sums over all of them. Assumes nothing.
use mathlib.Core.Bool.{Bool, true, false}
use mathlib.Core.Path.{◌≡◌, refl, sym, ap, ap₂, ◌∙◌, subst, fun_ext}
use mathlib.Core.List.{List, [], ◌∷◌, map, map-map, flat_map}
use Prim.Native.Nat.{ℕ, zero, suc, ◌+◌, ◌*◌, ◌%◌, ◌<◌}
use native.Mathlib.Nat.{mul-zero, mul-one, mul-suc}
use native.Mathlib.Omega.{arith}
use lib.Dec.{T, eqb, ltb, ltb→lt}
use lib.ListN.{length}
use borrow.Author.Tests.{lt-ltb}
use Rattle.maths.specs.Tests.{pick, all}
use Rattle.maths.specs.Lists.{keep}
use Rattle.maths.specs.Sums.{sum_l, sum_n, Even}
use Rattle.maths.specs.Ones.{delta}
use Rattle.maths.proofs.Tests.{both_left, both_right}
use Rattle.maths.proofs.Tally.{keep_flat, tally_keep, sum_tally}
use Rattle.maths.proofs.Sums.{sum_l_add, sum_l_mul, sum_l_mod, sum_l_sum_n, sum_n_add, sum_n_ext, sum_n_mod, sum_n_zero, even_sum_n, even_mul}
use Rattle.maths.proofs.Ones.{sum_delta, sum_counts}
use Rattle.codes.specs.Codes.{Known, bits_in, checks_in}
use Rattle.codes.specs.Edges.{Edge, in_range, edges}
use Rattle.codes.specs.Equations.{ends, bit_of, check_of, bits_of, checks_of, par, Hold, Meets}
use Rattle.runs.proofs.Flat.{edges_ranged}
use Rattle.matrices.specs.Counts.{count}
use Rattle.matrices.specs.Columns.{Odd}

module _ (near far : Edge → ℕ) where
  ends_keep : (es : List Edge) (a : ℕ) → ends near far es a ≡ map far (keep (λ e. eqb (near e) a) es)
  ends_keep [] a = refl
  ends_keep (e ∷ es) a = rw (ends_keep es a) (go (eqb (near e) a))
    where
      kept : List Edge
      kept = keep (λ e. eqb (near e) a) es

      go : (x : Bool) → pick x (far e ∷ map far kept) (map far kept) ≡ map far (pick x (e ∷ kept) kept)
      go true = refl
      go false = refl

  -- of lists put together, each of which has the one edge h x with the near end a, or none
  pub ends_flat : {B : Type 0} (F : B → List Edge) (g : B → Bool) (h : B → Edge) (xs : List B) (a : ℕ)
      → ((x : B) → keep (λ e. eqb (near e) a) (F x) ≡ pick (g x) (h x ∷ []) [])
      → ends near far (flat_map F xs) a ≡ map (λ x. far (h x)) (keep g xs)
  ends_flat F g h xs a one =
      ends_keep (flat_map F xs) a ∙ ap (map far) (keep_flat (λ e. eqb (near e) a) F g h xs one) ∙ map-map far h (keep g xs)

  -- a sum over the far ends of one near end
  sum_ends : (e : Edge) (es : List Edge) (w : ℕ → ℕ) (a : ℕ)
      → sum_l (ends near far (e ∷ es) a) w ≡ w (far e) * delta a (near e) + sum_l (ends near far es a) w
  sum_ends e es w a = go (eqb (near e) a)
    where
      go : (x : Bool) → sum_l (pick x (far e ∷ ends near far es a) (ends near far es a)) w ≡ w (far e) * pick x 1 0 + sum_l (ends near far es a) w
      go true = omega (arith, mul-one (w (far e)))
      go false = omega (arith, mul-zero (w (far e)))

-- as many edges join a check and a bit as the check's sum over the word with that one bit says
pub count_par : (es : List Edge) (a x : ℕ) → count es a x ≡ par es (delta x) a
unfolding count
count_par es a x =
    tally_keep (λ e. eqb e.check a) (λ e. eqb e.bit x) es
    ∙ sym (sum_tally bit_of (keep (λ e. eqb e.check a) es) x)
    ∙ ap (λ (vs : List ℕ). sum_l vs (delta x)) (sym (ends_keep check_of bit_of es a))

pub par_add : (es : List Edge) (w u : ℕ → ℕ) (a : ℕ) → par es (λ v. w v + u v) a ≡ par es w a + par es u a
par_add es w u a = sum_l_add (bits_of es a) w u

-- a sum of words that meet the equations, each taken any number of times, meets them
pub hold_sum : (es : List Edge) (m k : ℕ) (d : ℕ → ℕ) (u : ℕ → ℕ → ℕ) (w : ℕ → ℕ) → ((i : ℕ) → i < k → Hold es m (u i))
    → ((v : ℕ) → w v % 2 ≡ sum_n k (λ i. d i * u i v) % 2) → Hold es m w
hold_sum es m k d u w good same a ha =
    let vs = bits_of es a in
    sym (sum_l_mod vs w)
    ∙ ap (λ (f : ℕ → ℕ). sum_l vs f % 2) (fun_ext same)
    ∙ sum_l_mod vs (λ v. sum_n k (λ i. d i * u i v))
    ∙ ap (λ (x : ℕ). x % 2) (sum_l_sum_n k vs (λ i v. d i * u i v))
    ∙ even_sum_n k (λ i. sum_l vs (λ v. d i * u i v))
    (λ i hi. subst Even (sym (sum_l_mul (d i) vs (u i))) (even_mul (d i) (sum_l vs (u i)) (good i hi a ha)))

-- ---- edges in range
abbrev pub Ranged : ℕ → ℕ → List Edge → Type 0
Ranged m n es = T (all (in_range m n) es)

module _ (m n : ℕ) where
  -- the first edge's check and bit, and the other edges
  pub ranged_first : (e : Edge) (es : List Edge) → Ranged m n (e ∷ es) → (e.check < m) × (e.bit < n) × Ranged m n es
  ranged_first e es r =
      let h = both_left (in_range m n e) (all (in_range m n) es) r in (
        ltb→lt e.check m (both_left (ltb e.check m) (ltb e.bit n) h),
        ltb→lt e.bit n (both_right (ltb e.check m) (ltb e.bit n) h),
        both_right (in_range m n e) (all (in_range m n) es) r,
      )

  -- the equations read only the bits below n, and these modulo 2
  pub par_below : (es : List Edge) → Ranged m n es → (w w' : ℕ → ℕ) → ((v : ℕ) → v < n → w v % 2 ≡ w' v % 2)
      → (a : ℕ) → par es w a % 2 ≡ par es w' a % 2
  par_below [] r w w' h a = refl
  par_below (e ∷ es) r w w' h a =
      let z = ranged_first e es r in
      go (eqb e.check a) (par_below es z.2 w w' h a) (h e.bit z.1)
    where
      go : (x : Bool) → par es w a % 2 ≡ par es w' a % 2 → w e.bit % 2 ≡ w' e.bit % 2
          → sum_l (pick x (e.bit ∷ bits_of es a) (bits_of es a)) w % 2 ≡ sum_l (pick x (e.bit ∷ bits_of es a) (bits_of es a)) w' % 2
      go true ih here = omega arith
      go false ih here = ih

  bits_below : (es : List Edge) → Ranged m n es → T (all (λ v. ltb v n) (map bit_of es))
  bits_below [] r = tt
  bits_below (e ∷ es) r =
      let z = ranged_first e es r in
      rw (lt-ltb e.bit n z.1) (bits_below es z.2)

  -- the sum of all equations is the sum over all edges
  sum_checks : (es : List Edge) → Ranged m n es → (w : ℕ → ℕ) → sum_n m (par es w) ≡ sum_l (map bit_of es) w
  sum_checks [] r w = sum_n_zero m
  sum_checks (e ∷ es) r w =
      let z = ranged_first e es r in
      sum_n_ext m (par (e ∷ es) w) (λ a. w e.bit * delta a e.check + par es w a) (λ a h. sum_ends check_of bit_of e es w a)
      ∙ sum_n_add m (λ a. w e.bit * delta a e.check) (par es w)
      ∙ ap₂ (λ (x y : ℕ). x + y) (sum_delta (λ a. w e.bit) e.check m z.0) (sum_checks es z.2 w)

-- the number of edges of a bit
edges_of_bit : (es : List Edge) (x : ℕ) → length (checks_of es x) ≡ sum_l (map bit_of es) (delta x)
edges_of_bit [] x = refl
edges_of_bit (e ∷ es) x = go (eqb e.bit x) (edges_of_bit es x)
  where
    go : (y : Bool) → length (checks_of es x) ≡ sum_l (map bit_of es) (delta x)
        → length (pick y (e.check ∷ checks_of es x) (checks_of es x)) ≡ pick y 1 0 + sum_l (map bit_of es) (delta x)
    go true ih = omega arith
    go false ih = omega arith

mul_odd : (x c : ℕ) → c % 2 ≡ 1 → x * c % 2 ≡ x % 2
mul_odd x zero h = absurd (omega arith)
mul_odd x (suc c) h = omega (arith, mul-suc x c, even_mul x c (omega arith))

-- where every bit has an odd number of edges, a word that meets the equations has an even number of ones
pub even_word : (m n : ℕ) (es : List Edge) → Ranged m n es → ((x : ℕ) → x < n → Odd es x) → (w : ℕ → ℕ) → Hold es m w → Even (sum_n n w)
even_word m n es r odd w good =
    sum_n_mod n w (λ v. w v * sum_l (map bit_of es) (delta v))
    (λ v h. sym (mul_odd (w v) (sum_l (map bit_of es) (delta v)) (rw (edges_of_bit es v) at (odd v h))))
    ∙ ap (λ (x : ℕ). x % 2) (sym (sum_checks m n es r w ∙ sum_counts n (map bit_of es) w (bits_below m n es r)))
    ∙ even_sum_n m (par es w) good

-- whether a word meets a code's equations depends only on its bits, modulo 2, with those not sent
pub meets_same : (code : ℕ) → Known code → (w w' : ℕ → ℕ) → ((v : ℕ) → v < bits_in code → w v % 2 ≡ w' v % 2) → Meets code w → Meets code w'
meets_same code h w w' same good a ha =
    sym (par_below (checks_in code) (bits_in code) (edges code) (edges_ranged code h) w w' same a) ∙ good a ha
