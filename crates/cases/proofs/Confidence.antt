-- A byte as the confidence that it stands for, and the loops over bytes and confidences. Assumes nothing.
use mathlib.Core.Bool.{Bool, true, false}
use mathlib.Core.List.{List, map}
use mathlib.Core.Path.{◌≡◌, refl, sym, ap, ◌∙◌}
use Prim.Native.Nat.{ℕ, ◌+◌, ◌^◌, ◌≤◌, ◌<◌}
use native.Mathlib.Decide.{dec_lt}
use native.Mathlib.Omega.{arith}
use borrow.Author.Tests.{lt-ltb, le-ltb, eqb-true, eq-eqb}
use lib.Dec.{eqb}
use lib.IntN.{ℤ, pos, negsuc}
use lib.ListN.{length, get_or, set, length-map, get_or-map}
use lib.Signed.{mag}
use lib.Seq.{ext_get_or}
use mir.Syntax.{w8}
use mir.Val.{SFits, hbits, to_z, of_z}
use mir.Facts.{to_z-of_z}
use Rattle.maths.specs.Tests.{Agrees}
use Rattle.maths.specs.Lists.{span}
use Rattle.maths.proofs.Tests.{denies}
use Rattle.maths.proofs.Slices.{span_map}
use Rattle.maths.proofs.Writing.{Written, written_none, written_more, written_all}
use Rattle.std.specs.Prelude.{MatchBool, ◌≢◌}
use Rattle.std.specs.List.{AllWithin, HoldsAt, zip}
use Rattle.std.proofs.lemmas.Slice.Zip.{length-zip, get_or-zip}
use Rattle.cases.specs.Cases.{signed, softened}

-- the language's own conversion
pub signed_is : (x : ℕ) → x < 256 → to_z w8 x ≡ signed x
unfolding signed
signed_is x few = by (dec_lt x 128)
  where
    by : Dec (x < 128) → to_z w8 x ≡ signed x
    by (yes l) = rw (lt-ltb x 128 l)
    by (no n) = rw (le-ltb x 128 (omega arith)) (ap negsuc (omega arith))

-- two confidences are compared by their bits
pub bits_tell : (y z : ℤ) → SFits w8 y → SFits w8 z → Agrees (eqb (of_z w8 y) (of_z w8 z)) (z ≡ y)
bits_tell y z f g =
    record {
      sound = λ h. sym (to_z-of_z g) ∙ ap (to_z w8) (sym (eqb-true _ _ h)) ∙ to_z-of_z f;
      complete = λ p. eq-eqb _ _ (ap (of_z w8) (sym p));
    }

-- ---- the confidences of bytes, by number
abbrev signed_at : List ℕ → ℕ → ℤ
signed_at bytes i = signed (get_or bytes i 0)

module _ (bytes : List ℕ) where
  mapped_at : (i : ℕ) → get_or (map signed bytes) i (pos 0) ≡ signed_at bytes i
  unfolding signed
  mapped_at i = get_or-map signed bytes i 0

  mapped : (n : ℕ) → n ≡ length bytes → span (signed_at bytes) 0 n ≡ map signed bytes
  mapped n e = rw e (span_map 0 signed bytes)

-- ---- bytes are read as confidences: the first i places are written
pub record Softening (bytes : List ℕ) (soft₀ : List ℤ) (i : ℕ) (soft : List ℤ) : Type 0 where
  pub same : length soft₀ ≡ length bytes
  pub written : Written (signed_at bytes) soft₀ i soft

module _ (bytes : List ℕ) (soft₀ : List ℤ) where
  pub soften_begins : length soft₀ ≡ length bytes → Softening bytes soft₀ 0 soft₀
  soften_begins e = record { same = e; written = written_none }

  module _ (i : ℕ) (soft : List ℤ) (r : Softening bytes soft₀ i soft) where
    pub soften_more : (x : ℤ) → x ≡ signed_at bytes i → mag x < 2 ^ hbits w8 → i < length bytes → Softening bytes soft₀ (i + 1) (set soft i (to_z w8 (of_z w8 x)))
    soften_more x e f h = record { same = r.same; written = written_more r.written h (sym r.same) (to_z-of_z {w = w8} (record { sfits = f }) ∙ e) }

    pub soften_ends : length bytes ≤ i → soft ≡ softened bytes soft₀
    soften_ends h =
        written_all r.written h (sym r.same)
        ∙ rw (eq-eqb (length soft₀) (length bytes) r.same) (mapped bytes _ r.same)

-- ---- confidences are compared with bytes, pair by pair
pub same_by : (soft : List ℤ) (bytes : List ℕ) → length soft ≡ length bytes → (r : Bool)
    → MatchBool r (AllWithin (λ (p : ℤ × ℕ). p.0 ≡ signed p.1) (zip soft bytes) 0 (length (zip soft bytes)))
    ((k : ℕ) × (k < length (zip soft bytes)) × HoldsAt (λ (p : ℤ × ℕ). p.0 ≢ signed p.1) (zip soft bytes) k)
    → Agrees r (soft ≡ map signed bytes)
same_by soft bytes e r h = by r h
  where
    long : length (zip soft bytes) ≡ length soft
    long = omega (arith, length-zip soft bytes)

    pair : (k : ℕ) → k < length soft → get_or (zip soft bytes) k (pos 0, 0) ≡ (get_or soft k (pos 0), get_or bytes k 0)
    pair k l = get_or-zip soft bytes k (pos 0, 0) l (omega arith)

    by : (r : Bool) → MatchBool r (AllWithin (λ (p : ℤ × ℕ). p.0 ≡ signed p.1) (zip soft bytes) 0 (length (zip soft bytes)))
        ((k : ℕ) × (k < length (zip soft bytes)) × HoldsAt (λ (p : ℤ × ℕ). p.0 ≢ signed p.1) (zip soft bytes) k)
        → Agrees r (soft ≡ map signed bytes)
    by true all = record { sound = λ _. ext_get_or (pos 0) soft (map signed bytes) (e ∙ sym (length-map bytes signed)) (λ k l. (rw (pair k l) at (all k (pos 0, 0) (omega arith) (omega (arith, long)))) ∙ sym (mapped_at bytes k)); complete = λ _. refl }
    by false some =
        denies (λ p.
        let k = some.0 in
        let l : k < length soft = omega (arith, long, some.1) in
        (rw (pair k l) at (some.2 (pos 0, 0))) (ap (λ (s : List ℤ). get_or s k (pos 0)) p ∙ mapped_at bytes k))
