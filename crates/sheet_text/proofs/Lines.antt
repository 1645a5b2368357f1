-- A line: what is read was spelled, and what is spelled is read. Assumes nothing.
use Rattle.std.proofs.Common.{◌≡◌, ℕ, suc, ◌+◌, ◌<◌, Bool, true, false, cond, List, [], ◌∷◌, ◌++◌, Option, Some, None, nat_lt, lt-ltb, length, take, drop, take-append-drop, add-one, refl, sym, ap, ◌∙◌, append_assoc, length-append, arith}
use Rattle.std.specs.List.{list_all, position_or_len}
use Rattle.std.specs.Option.{option_map, option_and_then}
use Rattle.std.proofs.lemmas.Bool.Decides.{nat_tests}
use Rattle.std.proofs.lemmas.Slice.Eq.{bytes_eq-Decides}
use lib.Seq.{drop-append_seam, take-append_seam}
use Rattle.sheet_values.specs.Values.{begins}
use Rattle.sheet_text.specs.Text.{newline, is_newline, line}
use Rattle.sheet_text.specs.Reading.{cut}
use Rattle.sheet_text.proofs.Plain.{plain}

-- ---- a step whose value is there
pub step : {A B : Type 0} {o : Option A} (x : A) (f : A → Option B) {r : Option B} → o ≡ Some x → f x ≡ r → option_and_then f o ≡ r
step x f e h = rw e h

-- a step that was taken, and what it found
pub taken : {A B : Type 0} (f : A → Option B) (o : Option A) {y : B} → option_and_then f o ≡ Some y → (x : A) × ((o ≡ Some x) × (f x ≡ Some y))
taken f (Some x) e = (x, (refl, e))
taken f None e = absurd (let z : ◌≡◌ {A = ℕ} 0 1 = cc in omega arith)

-- a test that was passed, and what it let through
pub passed : {A : Type 0} (b : Bool) (o : Option A) {y : A} → cond b o None ≡ Some y → (b ≡ true) × (o ≡ Some y)
passed true o e = (refl, e)
passed false o e = absurd (let z : ◌≡◌ {A = ℕ} 0 1 = cc in omega arith)

-- the bytes before a newline at n, and the bytes after it
abbrev Cut : List ℕ → ℕ → Type 0
Cut s n = s ≡ take n s ++ newline ∷ drop (n + 1) s

cut_more : (b : ℕ) (s : List ℕ) (n : ℕ) → Cut s n → Cut (b ∷ s) (1 + n)
cut_more b s n h =
    let p : 1 + n ≡ suc n = omega arith in
    let q : suc n + 1 ≡ suc (n + 1) = omega arith in
    rw (p, q) (ap (λ (t : List ℕ). b ∷ t) h)

newline_at : (s : List ℕ) → position_or_len is_newline s < length s → Cut s (position_or_len is_newline s)
newline_at [] h = absurd (omega arith)
newline_at (b ∷ s) h = go (is_newline b) refl h (newline_at s)
  where
    go : (x : Bool) → is_newline b ≡ x → position_or_len is_newline (b ∷ s) < length (b ∷ s)
        → (position_or_len is_newline s < length s → Cut s (position_or_len is_newline s)) → Cut (b ∷ s) (position_or_len is_newline (b ∷ s))
    go true e h ih = rw e (let n : b ≡ newline = grind (arith, nat_tests) in ap (λ (c : ℕ). c ∷ s) n)
    go false e h ih =
        let l : 1 + position_or_len is_newline s < suc (length s) = rw e at h in
        rw e (cut_more b s (position_or_len is_newline s) (ih (omega arith)))

-- a value holds no newline
line_end : (v rest : List ℕ) → list_all plain v ≡ true → position_or_len is_newline (v ++ newline ∷ rest) ≡ length v
line_end [] rest e = refl
line_end (b ∷ v) rest e =
    let p : plain b ≡ true = grind (arith, nat_tests) in
    let q : list_all plain v ≡ true = grind (arith, nat_tests) in
    rw p (omega (arith, line_end v rest q))

regroup : (key v rest : List ℕ) → line key v ++ rest ≡ key ++ (v ++ newline ∷ rest)
regroup key v rest = simp append_assoc

-- a line that was cut off
pub cut_spelled : (key s v rest : List ℕ) → cut key s ≡ Some (v, rest) → s ≡ line key v ++ rest
unfolding cut
cut_spelled key s v rest e = go (begins key s) refl (nat_lt n (length t)) refl e
  where
    t : List ℕ
    t = drop (length key) s

    n : ℕ
    n = position_or_len is_newline t

    go : (x : Bool) → begins key s ≡ x → (y : Bool) → nat_lt n (length t) ≡ y
        → cond x (option_map {U = List ℕ × List ℕ} (λ n. (take n t, drop (n + 1) t)) (cond y (Some n) None)) None ≡ Some (v, rest) → s ≡ line key v ++ rest
    go true p true q e =
        let k : take (length key) s ≡ key = (bytes_eq-Decides (take (length key) s) key).0 p in
        let m : t ≡ take n t ++ newline ∷ drop (n + 1) t = newline_at t (grind (arith, nat_tests)) in
        let c : ◌≡◌ {A = List ℕ × List ℕ} (take n t, drop (n + 1) t) (v, rest) = cc in
        let a = ap (λ (c : List ℕ × List ℕ). c.0) c in
        let b = ap (λ (c : List ℕ × List ℕ). c.1) c in
        sym (take-append-drop (length key) s) ∙ rw (k, m, a, b) (sym (regroup key v rest))
    go true p false q e = absurd (let z : ◌≡◌ {A = ℕ} 0 1 = cc in omega arith)
    go false p y q e = absurd (let z : ◌≡◌ {A = ℕ} 0 1 = cc in omega arith)

pub cut_read : (key v rest : List ℕ) → list_all plain v ≡ true → cut key (line key v ++ rest) ≡ Some (v, rest)
unfolding cut
cut_read key v rest h =
    let n = length-append v (newline ∷ rest) in
    let e = line_end v rest h in
    let l : nat_lt (length v) (length (v ++ newline ∷ rest)) ≡ true = lt-ltb _ _ (omega arith) in
    rw (
      regroup key v rest,
      take-append_seam key (v ++ newline ∷ rest),
      (bytes_eq-Decides key key).1 refl,
      drop-append_seam key (v ++ newline ∷ rest),
      e,
      l,
      take-append_seam v (newline ∷ rest),
      add-one (length v),
      past v newline rest,
    )
  where
    past : (v : List ℕ) (b : ℕ) (rest : List ℕ) → drop (suc (length v)) (v ++ b ∷ rest) ≡ rest
    past [] b rest = refl
    past (x ∷ v) b rest = past v b rest
