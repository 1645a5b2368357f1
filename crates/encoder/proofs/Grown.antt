-- Byte strings that are written from the front. Assumes nothing.
use Rattle.std.proofs.Common.{◌≡◌, ℕ, suc, ◌+◌, ◌-◌, ◌*◌, ◌/◌, ◌%◌, ◌≤◌, ◌<◌, List, [], ◌∷◌, ◌++◌, length, get_or, take, drop, refl, sym, ap, ◌∙◌, append_assoc, arith, add-one}
use lib.ListN.{set, length-set, length-append, length-drop, drop_of_length-le}
use lib.Seq.{drop-append-add, drop-drop, get_or-drop, get_or-append-add, take_at, drop-cons, set_at}
use mathlib.Core.List.{append-nil}
use borrow.Rule.Slice.PartMut.{put_mid}
use Rattle.maths.specs.Lists.{span}
use Rattle.maths.specs.Bits.{bit_at}
use Rattle.maths.specs.Bytes.{byte, pack}
use Rattle.maths.proofs.Bytes.{length_pack, bit_at_take}
use Rattle.encoder.proofs.Packed.{pack_split, pack_last}

-- s whose first m bytes have been written, so that all of them will be made of the bits f
pub record Grown (s : List ℕ) (f : ℕ → ℕ) (m : ℕ) (t : List ℕ) : Type 0 where
  pub low : m ≤ length s
  pub long : length t ≡ length s
  pub is : t ≡ pack f m ++ drop m s

module _ (s : List ℕ) (f : ℕ → ℕ) where
  pub grown_none : Grown s f 0 s
  unfolding pack span
  grown_none = record { low = omega arith; long = refl; is = refl }

  pub grown_all : {m : ℕ} {t : List ℕ} → Grown s f m t → length s ≤ m → t ≡ pack f (length s)
  grown_all {m} g h =
      let e : m ≡ length s = omega (arith, g.low) in
      g.is ∙ rw (e, drop_of_length-le s {i = length s} (omega arith)) (append-nil _)

  -- what is not yet written
  rest : {m : ℕ} {t : List ℕ} → Grown s f m t → (n : ℕ) → m ≤ n → drop n t ≡ drop n s
  rest {m} {t} g n h =
      let e : n ≡ m + (n - m) = omega arith in
      let l : length (pack f m) ≡ m = length_pack f m in
      ap (λ (x : List ℕ). drop n x) g.is
      ∙ ap (λ (x : ℕ). drop x (pack f m ++ drop m s)) (e ∙ ap (λ (x : ℕ). x + (n - m)) (sym l))
      ∙ drop-append-add (pack f m) (drop m s) (n - m)
      ∙ drop-drop (n - m) m s
      ∙ ap (λ (x : ℕ). drop x s) (sym e)

  pub grown_next : {m : ℕ} {t : List ℕ} → Grown s f m t → (i : ℕ) → m ≤ i → get_or t i 0 ≡ get_or s i 0
  grown_next {m} {t} g i h =
      let e : i ≡ length (pack f m) + (i - m) = omega (arith, length_pack f m) in
      ap (λ (x : List ℕ). get_or x i 0) g.is
      ∙ ap (λ (k : ℕ). get_or (pack f m ++ drop m s) k 0) e
      ∙ get_or-append-add (pack f m) (drop m s) (i - m) 0
      ∙ get_or-drop m s (i - m) 0
      ∙ ap (λ (k : ℕ). get_or s k 0) (omega arith)

  pub grown_bit : {m : ℕ} {t : List ℕ} → Grown s f m t → (v : ℕ) → m * 8 ≤ v → bit_at t v ≡ bit_at s v
  grown_bit {m} g v h = rw (grown_next g (v / 8) (omega arith))

  -- a byte more, and n bytes more
  pub grown_byte : {m v : ℕ} {t : List ℕ} → Grown s f m t → m < length s → byte f m ≡ v → Grown s f (m + 1) (set t m v)
  grown_byte {m} {v} {t} g h e =
      record {
        low = omega arith;
        long = length-set t m v ∙ g.long;
        is = rw (g.is, drop-cons s m 0 h) (set_at (pack f m) (get_or s m 0) (drop (suc m) s) v m (length_pack f m)
            ∙ rw (pack_last f m, e, append_assoc (pack f m) (v ∷ []) (drop (m + 1) s), add-one m));
      }

  pub grown_part : {m : ℕ} (n : ℕ) {t u : List ℕ} → Grown s f m t → m + n ≤ length s → u ≡ pack (λ j. f (m * 8 + j)) n → Grown s f (m + n) (put_mid m n t u)
  grown_part {m} n {t} {u} g h e =
      let front : take m t ≡ pack f m = ap (λ (x : List ℕ). take m x) g.is ∙ take_at (pack f m) (drop m s) m (length_pack f m) in
      let made : put_mid m n t u ≡ pack f (m + n) ++ drop (m + n) s =
      rw (front, e, drop-drop n m t, rest g (m + n) (omega arith), pack_split f m n, append_assoc (pack f m) (pack (λ j. f (m * 8 + j)) n) (drop (m + n) s)) in
      record {
        low = h;
        long = ap length made ∙ omega (arith, length-append (pack f (m + n)) (drop (m + n) s), length_pack f (m + n), length-drop (m + n) s);
        is = made;
      }

-- the bits of a part
pub bit_part : (s : List ℕ) (at n v : ℕ) → v < n * 8 → bit_at (take n (drop at s)) v ≡ bit_at s (at * 8 + v)
bit_part s at n v h =
    let q : (at * 8 + v) / 8 ≡ at + v / 8 = omega arith in
    let m : (at * 8 + v) % 8 ≡ v % 8 = omega arith in
    bit_at_take n (drop at s) v (omega arith) ∙ rw (get_or-drop at s (v / 8) 0, q, m)
