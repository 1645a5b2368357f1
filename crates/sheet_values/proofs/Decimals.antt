-- Numbers in decimal: what is read is what is spelled. Assumes nothing.
use Rattle.std.proofs.Common.{◌≡◌, ℕ, zero, suc, ◌+◌, ◌*◌, ◌/◌, ◌%◌, ◌^◌, ◌≤◌, ◌<◌, List, [], ◌∷◌, ◌++◌, Option, Some, None, cond, nat_le, length, get_or, refl, sym, ap, ◌∙◌, append-nil, length-append, lt-ltb, le-ltb, zero-add, div-lt_iff_lt-mul, pow-suc, arith}
use Rattle.std.specs.Option.{option_and_then}
use Rattle.std.proofs.lemmas.Bool.Decides.{nat_tests}
use native.Mathlib.Decide.{dec_lt}
use lib.ListN.{get_or-append}
use lib.Seq.{append_snoc}
use Rattle.sheet_values.specs.Spelling.{glyph, decimal_in, decimal, largest}
use Rattle.sheet_values.specs.Values.{decimal_value, number_from, number_of}
use Rattle.sheet_values.proofs.Glyphs.{decimal_glyph, glyph_decimal}
use Rattle.sheet_values.proofs.Turns.{number_more}

-- ---- the digits of a number do not depend on how many may be split off, where that is enough
enough : (k m n : ℕ) → n ≤ k → n ≤ m → decimal_in k n ≡ decimal_in m n
unfolding decimal_in
enough zero zero n g h = refl
enough zero (suc m) n g h = rw (lt-ltb n 10 (omega arith))
enough (suc k) m n g h = go m h (dec_lt n 10) (λ j. enough k j (n / 10))
  where
    go : (m : ℕ) → n ≤ m → Dec (n < 10) → ((j : ℕ) → n / 10 ≤ k → n / 10 ≤ j → decimal_in k (n / 10) ≡ decimal_in j (n / 10)) → decimal_in (suc k) n ≡ decimal_in m n
    go zero h d ih = rw (lt-ltb n 10 (omega arith))
    go (suc j) h (yes l) ih = rw (lt-ltb n 10 l)
    go (suc j) h (no l) ih = rw (le-ltb n 10 (omega arith), ih j (omega arith) (omega arith))

pub decimal_digit : (n : ℕ) → n < 10 → decimal n ≡ glyph n ∷ []
unfolding decimal decimal_in
decimal_digit zero h = refl
decimal_digit (suc n) h = rw (lt-ltb (suc n) 10 h)

pub decimal_more : (n : ℕ) → 10 ≤ n → decimal n ≡ decimal (n / 10) ++ glyph (n % 10) ∷ []
unfolding decimal decimal_in
decimal_more zero h = absurd (omega arith)
decimal_more (suc n) h = rw (le-ltb (suc n) 10 h, enough n (suc n / 10) (suc n / 10) (omega arith) (omega arith))

-- what holds of the digits, and of a number's digits by those of its tenth, holds of every number's
pub by_tenths : (P : ℕ → Type 0) → ((n : ℕ) → n < 10 → P n) → ((n : ℕ) → 10 ≤ n → P (n / 10) → P n) → (n : ℕ) → P n
by_tenths P few more n = go n n (omega arith)
  where
    go : (k n : ℕ) → n ≤ k → P n
    go zero n h = few n (omega arith)
    go (suc k) n h = split (dec_lt n 10) (go k (n / 10))
      where
        split : Dec (n < 10) → (n / 10 ≤ k → P (n / 10)) → P n
        split (yes l) ih = few n l
        split (no l) ih = more n (omega arith) (ih (omega arith))

-- ---- what is read was spelled
next_digit : (n b d : ℕ) → 1 ≤ n → decimal_value b ≡ Some d → decimal (10 * n + d) ≡ decimal n ++ b ∷ []
next_digit n b d h e =
    let g = glyph_decimal b d e in
    let q : (10 * n + d) / 10 ≡ n = omega (arith, g.1) in
    let r : (10 * n + d) % 10 ≡ d = omega (arith, g.1) in
    decimal_more (10 * n + d) (omega arith) ∙ rw (q, r, g.0)

pub record Spelled (digits : List ℕ) (m : ℕ) : Type 0 where
  pub is : digits ≡ decimal m
  pub low : m ≤ largest

-- a number's first digit is read, and its value and the rest are at most the largest
record First (n b : ℕ) (s : List ℕ) (m : ℕ) : Type 0 where
  digit : ℕ
  value : decimal_value b ≡ Some digit
  low : 10 * n + digit ≤ largest
  rest : number_from (10 * n + digit) s ≡ Some m

first : (n b : ℕ) (s : List ℕ) (m : ℕ) → number_from n (b ∷ s) ≡ Some m → First n b s m
unfolding number_from
first n b s m e = go (decimal_value b) refl e
  where
    go : (o : Option ℕ) → decimal_value b ≡ o → option_and_then (λ d. cond (nat_le (10 * n + d) largest) (number_from (10 * n + d) s) None) o ≡ Some m → First n b s m
    go None q e = absurd (let z : ◌≡◌ {A = ℕ} 0 1 = cc in omega arith)
    go (Some d) q e = record { digit = d; value = q; low = grind (arith, nat_tests); rest = grind (arith, nat_tests) }

from_spelled : (v : List ℕ) (n m : ℕ) → 1 ≤ n → n ≤ largest → number_from n v ≡ Some m → Spelled (decimal n ++ v) m
from_spelled [] n m h l e = unfold number_from in (
    let q : n ≡ m = cc in
    record { is = append-nil (decimal n) ∙ ap decimal q; low = omega arith })
from_spelled (b ∷ s) n m h l e =
    let f = first n b s m e in
    let i = from_spelled s (10 * n + f.digit) m (omega arith) f.low f.rest in
    record { is = sym (append_snoc (decimal n) b s) ∙ rw (next_digit n b f.digit h f.value) at i.is; low = i.low }

pub number_spelled : (v : List ℕ) (m : ℕ) → number_of v ≡ Some m → Spelled v m
number_spelled [] m e = absurd (let z : ◌≡◌ {A = ℕ} 0 1 = cc in omega arith)
number_spelled (b ∷ s) m e = go (first 0 b s m (grind (arith, nat_tests)))
  where
    -- a first digit that is 0 stands alone
    go : First 0 b s m → Spelled (b ∷ s) m
    go f = by f.digit s (glyph_decimal b f.digit f.value) (rw (zero-add f.digit) at f.rest) e
      where
        by : (d : ℕ) (t : List ℕ) → (glyph d ≡ b) × (d < 10) → number_from d t ≡ Some m → number_of (b ∷ t) ≡ Some m → Spelled (b ∷ t) m
        by (suc d) t g r e =
            let i = from_spelled t (suc d) m (omega arith) (omega (arith, g.1)) r in
            record { is = rw (decimal_digit (suc d) g.1, g.0) at i.is; low = i.low }
        by zero [] g r e = unfold number_from in (
            let q : 0 ≡ m = cc in
            record { is = rw (← q, decimal_digit 0 (omega arith), g.0); low = omega arith })
        by zero (x ∷ t) g r e = absurd (let z : b ≡ 48 = sym g.0 in grind (arith, nat_tests))

-- ---- what is spelled is read
from_append : (v w : List ℕ) (n k : ℕ) → number_from n v ≡ Some k → number_from n (v ++ w) ≡ number_from k w
from_append [] w n k e = unfold number_from in (let q : n ≡ k = cc in rw q)
from_append (b ∷ v) w n k e =
    let f = first n b v k e in
    number_more n b (v ++ w) f.digit f.value f.low ∙ from_append v w (10 * n + f.digit) k f.rest

one_digit : (n d m : ℕ) → d < 10 → 10 * n + d ≡ m → m ≤ largest → number_from n (glyph d ∷ []) ≡ Some m
one_digit n d m h e l = number_more n (glyph d) [] d (decimal_glyph d h) (omega arith) ∙ unfold number_from in (ap Some e)

from_decimal : (m : ℕ) → m ≤ largest → number_from 0 (decimal m) ≡ Some m
from_decimal =
    by_tenths (λ m. m ≤ largest → number_from 0 (decimal m) ≡ Some m)
    (λ m h l. rw (decimal_digit m h) (one_digit 0 m m h (omega arith) l))
    (λ m h ih l.
    rw (decimal_more m h)
    (from_append (decimal (m / 10)) (glyph (m % 10) ∷ []) 0 (m / 10) (ih (omega arith)) ∙ one_digit (m / 10) (m % 10) m (omega arith) (omega arith) l))

-- the first digit of a number above 0 is not 0
pub decimal_long : (m : ℕ) → 0 < length (decimal m)
decimal_long =
    by_tenths (λ m. 0 < length (decimal m)) (λ m h. rw (decimal_digit m h) (omega arith))
    (λ m h ih. rw (decimal_more m h) (omega (arith, length-append (decimal (m / 10)) (glyph (m % 10) ∷ []))))

pub decimal_first : (m : ℕ) → 1 ≤ m → get_or (decimal m) 0 0 ≡ 48 → ⊥
decimal_first =
    by_tenths (λ m. 1 ≤ m → get_or (decimal m) 0 0 ≡ 48 → ⊥)
    (λ m h l e. omega (arith, rw (decimal_digit m h, lt-ltb m 10 h) at e))
    (λ m h ih l e. ih (omega arith) (rw (decimal_more m h, get_or-append (decimal (m / 10)) (glyph (m % 10) ∷ []) 0 0 (decimal_long (m / 10))) at e))

pub number_read : (m : ℕ) → m ≤ largest → number_of (decimal m) ≡ Some m
number_read zero l = rw (decimal_digit 0 (omega arith)) (one_digit 0 0 0 (omega arith) (omega arith) l)
number_read (suc m) l =
    let e = from_decimal (suc m) l in
    let f = decimal_first (suc m) (omega arith) in
    let g = decimal_long (suc m) in
    grind (arith, nat_tests)

-- ---- how many digits there are
pub decimal_longer : (m : ℕ) → 10 ≤ m → length (decimal m) ≡ length (decimal (m / 10)) + 1
decimal_longer m h = rw (decimal_more m h) (length-append (decimal (m / 10)) (glyph (m % 10) ∷ []))

pub decimal_few : (k m : ℕ) → m < 10 ^ suc k → length (decimal m) ≤ suc k
decimal_few zero m h = rw (decimal_digit m (omega arith)) (omega arith)
decimal_few (suc k) m h = go (dec_lt m 10) (decimal_few k (m / 10))
  where
    go : Dec (m < 10) → (m / 10 < 10 ^ suc k → length (decimal (m / 10)) ≤ suc k) → length (decimal m) ≤ suc (suc k)
    go (yes l) ih = rw (decimal_digit m l) (omega arith)
    go (no l) ih = omega (arith, decimal_longer m (omega arith), ih ((div-lt_iff_lt-mul (omega arith)).1 (rw (pow-suc 10 (suc k)) at h)))
