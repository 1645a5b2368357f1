-- Over any edges: one flipped bit that shares at most one check with each other bit is put right in pass 1. Assumes nothing.
use mathlib.Core.Bool.{Bool, true, false, not}
use mathlib.Core.List.{List}
use mathlib.Core.Logic.{◌≢◌}
use mathlib.Core.Path.{◌≡◌, refl, sym, ap, ◌∙◌, fun_ext}
use Prim.Native.Nat.{ℕ, zero, suc, ◌+◌, ◌%◌, ◌≤◌, ◌<◌}
use native.Mathlib.Decide.{ℕ_discrete, dec_lt}
use native.Mathlib.Omega.{arith}
use lib.Dec.{T, eqb}
use lib.IntN.{ℤ, pos}
use lib.ListN.{length, get_or, get_or-eq_default}
use Rattle.maths.specs.Tests.{pick, all}
use Rattle.maths.specs.Sums.{sum_l}
use Rattle.maths.specs.Ones.{delta}
use Rattle.maths.specs.Budget.{end, run}
use Rattle.maths.proofs.Tests.{pick_bit}
use Rattle.maths.proofs.Lists.{span_length}
use Rattle.maths.proofs.Slices.{span_get}
use Rattle.maths.proofs.Sums.{sum_l_add, sum_l_mod, sum_l_zero}
use Rattle.maths.proofs.Ones.{delta_self, delta_other}
use Rattle.codes.specs.Edges.{Edge, in_range}
use Rattle.codes.specs.Equations.{bits_of, checks_of, par, word_of, Hold}
use Rattle.runs.specs.Meets.{holds}
use Rattle.runs.proofs.Parity.{holds_hold, hold_holds}
use Rattle.bit_flip.specs.Steps.{Bits}
use Rattle.bit_flip.proofs.Scores.{sum_ranged}
use Rattle.two_flips.specs.Words.{plus, one_at}
use Rattle.two_flips.proofs.Scores.{score_at}
use Rattle.two_flips.proofs.Added.{plus_at}
use Rattle.min_sum.specs.Soft.{hard}
use Rattle.min_sum.specs.Confidence.{Confidence, whole}
use Rattle.min_sum.specs.MinSum.{Messages, hard_bits, start, pass, met, turn}
use Rattle.min_sum.proofs.Success.{holds_same}
use Rattle.soft_flip.specs.OneSize.{level}
use Rattle.soft_flip.proofs.Saturated.{total, signs, tested, stays, turns}
use Rattle.soft_flip.proofs.Levels.{level_hard}
use Rattle.soft_flip.proofs.First.{ones, oddly}
use Rattle.soft_flip.proofs.Second.{first_bits, second_marginals}

not_bit : (b : Bool) → pick (not b) 1 0 + pick b 1 0 ≡ 1
not_bit true = refl
not_bit false = refl

-- edges over which one wrong bit is outvoted: each check has two of them at least and each bit three, and the bit shares at most one check with any other
pub record Spread (es : List Edge) (m n x : ℕ) : Type 0 where
  pub low : x < n
  pub ranged : T (all (in_range m n) es)
  pub two : (a : ℕ) → a < m → 2 ≤ length (bits_of es a)
  pub three : (v : ℕ) → v < n → 3 ≤ length (checks_of es v)
  pub own : score_at es (delta x) x ≡ length (checks_of es x)
  pub few : (u : ℕ) → u < n → u ≢ x → score_at es (delta x) u ≤ 1

-- confidences of size k + 1 in the bits of a word that meets the equations, with the bit x flipped
pub record Input (es : List Edge) (m n k x : ℕ) (w : List ℕ) (llrs : List ℤ) : Type 0 where
  pub bits : Bits w
  pub long : length w ≡ n
  pub good : Hold es m (word_of w)
  pub llrs_long : length llrs ≡ n
  pub given : (i : ℕ) → i < n → get_or llrs i (pos 0) ≡ level k (eqb (word_of (plus w (one_at n x)) i) 1)

module _ (top k : ℕ) (fits : suc k ≤ top) (es : List Edge) (m n x : ℕ) (spread : Spread es m n x) (w : List ℕ) (llrs : List ℤ) (input : Input es m n k x w llrs) where
  abbrev o : Confidence ℤ
  o = whole top

  -- ---- the word received
  abbrev received : List ℕ
  received = plus w (one_at n x)

  abbrev r : ℕ → Bool
  r i = eqb (word_of received i) 1

  one_at_lem : (i : ℕ) → word_of (one_at n x) i ≡ delta x i
  one_at_lem i = go (dec_lt i n)
    where
      go : Dec (i < n) → word_of (one_at n x) i ≡ delta x i
      go (yes h) = span_get (delta x) 0 n i h
      go (no h) =
          let l : length (one_at n x) ≤ i = omega (arith, span_length (delta x) 0 n) in
          get_or-eq_default (one_at n x) 0 {n = i} l ∙ sym (delta_other x i (λ e. omega arith))

  received_at : (i : ℕ) → word_of received i ≡ (word_of w i + delta x i) % 2
  received_at i = plus_at w (one_at n x) (span_length (delta x) 0 n ∙ sym input.long) i ∙ ap (λ (e : ℕ). (word_of w i + e) % 2) (one_at_lem i)

  ones_is : (i : ℕ) → ones r i ≡ (word_of w i + delta x i) % 2
  ones_is i = pick_bit (word_of received i) (omega (arith, received_at i)) ∙ received_at i

  abbrev odd : ℕ → Bool
  odd a = oddly (par es (ones r) a)

  odd_sum : (a : ℕ) → a < m → par es (ones r) a % 2 ≡ par es (delta x) a % 2
  odd_sum a h =
      let vs = bits_of es a in
      let sum = ap (λ (f : ℕ → ℕ). sum_l vs f % 2) (fun_ext ones_is) ∙ sum_l_mod vs (λ v. word_of w v + delta x v) in
      omega (arith, sum, sum_l_add vs (word_of w) (delta x), input.good a h)

  tested_is : (i : ℕ) → tested odd (checks_of es i) ≡ score_at es (delta x) i
  unfolding score_at
  tested_is i =
      sum_ranged m n (λ a. pick (odd a) 1 0) (λ a. par es (delta x) a % 2) (λ a h. pick_bit (par es (ones r) a % 2) (omega arith) ∙ odd_sum a h) es spread.ranged i

  own_sum : sum_l (checks_of es x) (λ a. par es (delta x) a % 2) ≡ length (checks_of es x)
  unfolding score_at
  own_sum = spread.own

  -- ---- the passes
  abbrev pub pass₀ : Messages ℤ
  pass₀ = pass o es m 0 llrs (start o es m 0 llrs)

  abbrev pub pass₁ : Messages ℤ
  pass₁ = pass o es m 0 llrs pass₀

  -- ---- pass 0 goes on
  hard₀ : (i : ℕ) → i < n → hard_bits o pass₀.marginals i ≡ ones r i
  hard₀ i h = first_bits top es m llrs i ∙ rw (input.given i h, level_hard k (r i))

  broken : holds es m (ones r) ≡ false
  broken = go (holds es m (ones r)) refl
    where
      go : (t : Bool) → holds es m (ones r) ≡ t → t ≡ false
      go false e = refl
      go true e =
          let all_even_lem = holds_hold es m (ones r) e in
          let none = sum_ranged m n (λ a. par es (ones r) a % 2) (λ a. 0) all_even_lem es spread.ranged x ∙ sum_l_zero (checks_of es x) in
          let some = sum_ranged m n (λ a. par es (ones r) a % 2) (λ a. par es (delta x) a % 2) odd_sum es spread.ranged x in
          absurd (omega (arith, none, some, own_sum, spread.three x spread.low))

  goes_on : met o es m 0 llrs pass₀ ≡ false
  unfolding met
  goes_on = holds_same m n (hard_bits o pass₀.marginals) (ones r) hard₀ es spread.ranged ∙ broken

  -- ---- pass 1 stops
  pub hard₁ : (i : ℕ) → i < n → hard_bits o pass₁.marginals i ≡ word_of w i
  hard₁ i h = rw (second_marginals top k fits es m n spread.ranged spread.two llrs input.llrs_long r input.given i h) (go (ℕ_discrete i x))
    where
      go : Dec (i ≡ x) → pick (hard (total top k (signs odd (r i) (checks_of es i)) (level k (r i)))) 1 0 ≡ word_of w i
      go (no ne) =
          let few' : tested odd (checks_of es i) ≤ 1 = rw (tested_is i) (spread.few i h ne) in
          rw (stays odd top k fits (checks_of es i) (spread.three i h) (r i) few') (omega (arith, ones_is i, delta_other x i ne, input.bits i))
      go (yes e) =
          let all' : tested odd (checks_of es i) ≡ length (checks_of es i) = rw e (tested_is x ∙ spread.own) in
          let one : delta x i ≡ 1 = rw e (delta_self x) in
          rw (turns odd top k fits (checks_of es i) (spread.three i h) (r i) all') (omega (arith, not_bit (r i), ones_is i, input.bits i))

  stops : met o es m 0 llrs pass₁ ≡ true
  unfolding met
  stops = holds_same m n (hard_bits o pass₁.marginals) (word_of w) hard₁ es spread.ranged ∙ hold_holds es m (word_of w) input.good

  pub ends : (limit : ℕ) → 2 ≤ limit → run (turn o es m 0 llrs) limit 0 (start o es m 0 llrs) ≡ end true 1 pass₁
  unfolding run turn
  ends zero h = absurd (omega arith)
  ends (suc zero) h = absurd (omega arith)
  ends (suc (suc b)) h = rw (goes_on, stops)

  -- a limit of 1 is spent by pass 0
  pub ends_late : run (turn o es m 0 llrs) 1 0 (start o es m 0 llrs) ≡ end false 1 pass₀
  unfolding run turn
  ends_late = rw goes_on
