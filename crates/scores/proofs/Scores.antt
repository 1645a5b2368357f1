-- What a bit's byte is after its checks gave, and after the flip, by its bit and its score. Assumes nothing.
use Rattle.std.proofs.Common.{◌≡◌, ℕ, ◌+◌, ◌-◌, ◌*◌, ◌/◌, ◌%◌, ◌<◌, eqb, List, [], ◌∷◌, length, ◌∙◌, arith}
use Rattle.maths.specs.Tests.{pick}
use Rattle.maths.specs.Lists.{span, fold}
use Rattle.maths.specs.Sums.{sum_l}
use Rattle.maths.proofs.Slices.{span_is}
use Rattle.codes.specs.Edges.{Edge}
use Rattle.codes.specs.Equations.{check_of, bit_of, checks_of, word_of}
use Rattle.runs.proofs.Tally.{into, put_length, put_at}
use Rattle.scores.specs.Scores.{twice, give, flip_byte}

-- ---- what a bit is given
into_twice : (g : ℕ → ℕ) (vs : List ℕ) (x : ℕ) → x < 256 → into twice g vs x ≡ (x + 2 * sum_l vs g) % 256
unfolding into
into_twice g [] x k = omega arith
into_twice g (v ∷ vs) x k = into_twice g vs ((x + 2 * g v) % 256) (omega arith) ∙ omega arith

pub gave : (s : ℕ → ℕ) (es : List Edge) (w : List ℕ) → ((v : ℕ) → word_of w v < 256)
    → fold (give s) es w ≡ span (λ v. (word_of w v + 2 * sum_l (checks_of es v) s) % 256) 0 (length w)
gave s es w low =
    span_is 0 _ _ (length w) (put_length bit_of check_of twice s es w)
    (λ v k. put_at bit_of check_of twice s es w v k ∙ into_twice s (checks_of es v) (word_of w v) (low v))

-- ---- the flip
pub flip_one : (top x y : ℕ) → x < 2 → flip_byte top (x + 2 * y) ≡ pick (eqb y top) (1 - x) x
unfolding flip_byte
flip_one top x y h =
    let p : (x + 2 * y) / 2 ≡ y = omega arith in
    let q : (x + 2 * y) % 2 ≡ x = omega arith in
    rw (p, q)
