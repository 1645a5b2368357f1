-- Blocks of numbers, added place by place and turned. Assumes nothing.
use mathlib.Core.List.{List, [], ◌∷◌, ◌++◌}
use mathlib.Core.Logic.{◌⊎◌, inl, inr}
use mathlib.Core.Path.{◌≡◌, refl, sym, ap, ◌∙◌}
use Prim.Native.Nat.{ℕ, zero, suc, ◌+◌, ◌-◌, ◌%◌, ◌<◌}
use native.Mathlib.Nat.{add-zero, zero-add, mod-eq_of_lt, add-mod_right}
use native.Mathlib.Decide.{dec_lt}
use native.Mathlib.Omega.{arith}
use lib.ListN.{length, get_or, take, drop, length-drop, get_or-append}
use lib.Seq.{get_or-append-add, get_or-take, get_or-drop, take-nil, drop-nil}

-- ---- added place by place
abbrev pub zip_add : List ℕ → List ℕ → List ℕ
zip_add [] ys = ys
zip_add (x ∷ xs) [] = x ∷ xs
zip_add (x ∷ xs) (y ∷ ys) = (x + y) ∷ zip_add xs ys

pub get_d_zip_add : (xs ys : List ℕ) (t : ℕ) → get_or (zip_add xs ys) t 0 ≡ get_or xs t 0 + get_or ys t 0
get_d_zip_add [] ys t = sym (zero-add (get_or ys t 0))
get_d_zip_add (x ∷ xs) [] t = sym (add-zero (get_or (x ∷ xs) t 0))
get_d_zip_add (x ∷ xs) (y ∷ ys) zero = refl
get_d_zip_add (x ∷ xs) (y ∷ ys) (suc t) = get_d_zip_add xs ys t

-- ---- turned: a block is empty or has b numbers
abbrev pub turn_l : ℕ → List ℕ → List ℕ
turn_l s l = drop s l ++ take s l

abbrev pub Block : ℕ → List ℕ → Type 0
Block b l = (length l ≡ b) ⊎ (l ≡ [])

pub get_d_turn_l : (b s : ℕ) (l : List ℕ) → Block b l → s < b → (t : ℕ) → t < b → get_or (turn_l s l) t 0 ≡ get_or l ((s + t) % b) 0
get_d_turn_l b s l (inr e) hs t ht = rw (e, drop-nil {A = ℕ} s, take-nil {A = ℕ} s)
get_d_turn_l b s l (inl e) hs t ht = go (dec_lt t (b - s))
  where
    len : length (drop s l) ≡ b - s
    len = length-drop s l ∙ ap (λ (n : ℕ). n - s) e

    go : Dec (t < b - s) → get_or (drop s l ++ take s l) t 0 ≡ get_or l ((s + t) % b) 0
    go (yes h) = get_or-append (drop s l) (take s l) 0 t (omega (arith, len)) ∙ get_or-drop s l t 0 ∙ ap (λ (n : ℕ). get_or l n 0) (sym (mod-eq_of_lt {n = s + t} {m = b} (omega arith)))
    go (no h) =
        let f : t ≡ length (drop s l) + (t - (b - s)) = omega (arith, len) in
        let g : s + t ≡ t - (b - s) + b = omega arith in
        ap (λ (n : ℕ). get_or (drop s l ++ take s l) n 0) f ∙ get_or-append-add (drop s l) (take s l) (t - (b - s)) 0
        ∙ get_or-take s l (t - (b - s)) 0 (omega arith)
        ∙ ap (λ (n : ℕ). get_or l n 0) (sym (ap (λ (n : ℕ). n % b) g ∙ add-mod_right (t - (b - s)) b ∙ mod-eq_of_lt {n = t - (b - s)} {m = b} (omega arith)))
