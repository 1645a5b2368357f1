-- What a check's byte is after its erased bits are counted, what it votes, and how votes settle a bit; the votes over the runs of a list, for `search casting`. Assumes nothing.
use Rattle.std.proofs.Common.{◌≡◌, ℕ, zero, suc, ◌+◌, ◌-◌, ◌*◌, ◌/◌, ◌%◌, ◌<◌, ◌≤◌, min, Bool, true, false, eqb, ltb, List, [], ◌∷◌, map, refl, ◌∙◌, arith, rules, le-ltb, lt-ltb, ne_eqb}
use native.Mathlib.Decide.{ℕ_discrete, dec_lt}
use Rattle.maths.specs.Tests.{pick, both}
use Rattle.maths.specs.Lists.{fold}
use Rattle.maths.specs.Sums.{sum_l}
use Rattle.codes.specs.Equations.{word_of}
use Rattle.runs.specs.declared.EdgeRun.{EdgeRun}
use Rattle.runs.specs.Runs.{laid}
use Rattle.runs.specs.Meets.{syndrome_of}
use Rattle.runs.proofs.Tally.{into}
use Rattle.scores.specs.Votes.{add_erased, count_erased, vote_byte, cast_votes, settle_byte}

-- ---- the byte of a check: the parity of its known bits, and twice its erased bits, at most 4
pub into_erased : (g : ℕ → ℕ) → ((v : ℕ) → g v < 4) → (vs : List ℕ) (x : ℕ) → x ≤ 4 → into add_erased g vs x ≡ min 4 (x + 2 * sum_l vs (λ v. g v / 2))
unfolding into
into_erased g low [] x k = omega arith
into_erased g low (v ∷ vs) x k =
    let h = low v in
    into_erased g low vs (min 4 ((x + g v / 2 * 2) % 256)) (omega arith) ∙ omega arith

-- what such a check gives
pub vote_one : (h o : ℕ) → o < 2 → vote_byte (min 4 (o + 2 * h)) ≡ 2 * pick (eqb h 1) o 0 + 254 * pick (eqb h 1) (1 - o) 0
unfolding vote_byte
vote_one zero zero k = refl
vote_one zero (suc zero) k = refl
vote_one zero (suc (suc o)) k = absurd (omega arith)
vote_one (suc zero) zero k = refl
vote_one (suc zero) (suc zero) k = refl
vote_one (suc zero) (suc (suc o)) k = absurd (omega arith)
vote_one (suc (suc h)) o k =
    let e : min 4 (o + 2 * suc (suc h)) ≡ 4 = omega arith in
    rw (e, ne_eqb (suc (suc h)) 1 (λ z. omega arith))

-- a known bit stays, an erased bit goes by its votes
pub settle_one : (x : Bool) (y a n : ℕ) → y < 2 → a + n ≤ 31 → settle_byte ((pick x 2 y + 2 * (2 * a + 254 * n)) % 256) ≡ pick x (pick (ltb n a) 1 0) y
unfolding settle_byte
settle_one false y a n k l =
    let q : (y + 2 * (2 * a + 254 * n)) % 256 % 4 < 2 = omega arith in
    let r : (y + 2 * (2 * a + 254 * n)) % 256 % 2 ≡ y = omega arith in
    rw (lt-ltb _ 2 q, r)
settle_one true y a n k l = go (dec_lt n a)
  where
    z : ℕ
    z = (2 + 2 * (2 * a + 254 * n)) % 256

    four : 2 ≤ z % 4
    four = omega arith

    go : Dec (n < a) → pick (ltb (z % 4) 2) (z % 2) (pick (both (ltb 0 (z / 4)) (ltb (z / 4) 32)) 1 0) ≡ pick (ltb n a) 1 0
    go (yes h) =
        let p : 0 < z / 4 = omega arith in
        let q : z / 4 < 32 = omega arith in
        rw (le-ltb (z % 4) 2 four, lt-ltb n a h, lt-ltb 0 (z / 4) p, lt-ltb (z / 4) 32 q)
    go (no h) = rw (le-ltb (z % 4) 2 four, le-ltb n a (omega arith)) (side (ℕ_discrete (z / 4) 0))
      where
        side : Dec (z / 4 ≡ 0) → ◌≡◌ {A = ℕ} (pick (both (ltb 0 (z / 4)) (ltb (z / 4) 32)) 1 0) 0
        side (yes e) = rw e
        side (no e) =
            let p : 0 < z / 4 = omega arith in
            let q : 32 ≤ z / 4 = omega arith in
            rw (lt-ltb 0 (z / 4) p, le-ltb (z / 4) 32 q)

-- ---- over the edges of those runs that lie within m checks and n bits
pub cast_by : (rs : List EdgeRun) (b s₁ s₂ s₃ : List ℕ) (k m n : ℕ) → s₁ ≡ syndrome_of (laid m n rs) m (word_of b) → s₂ ≡ fold (count_erased (word_of b)) (laid k n rs) s₁ → s₃ ≡ map vote_byte s₂
    → k ≡ m → s₃ ≡ cast_votes (laid m n rs) m b
unfolding cast_votes
cast_by rs b s₁ s₂ s₃ k m n e₁ e₂ e₃ l = e₃ ∙ rw (e₂, e₁, l)

pub ruleset casting = (cast_by, rules)
