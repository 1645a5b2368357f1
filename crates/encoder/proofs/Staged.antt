-- The parity part of a byte string, offset by offset. Assumes nothing.
use Rattle.std.proofs.Common.{◌≡◌, ℕ, zero, ◌+◌, ◌*◌, ◌/◌, ◌%◌, ◌≤◌, ◌<◌, List, length, replicate, sym, ap, ◌∙◌, arith, add-one}
use native.Mathlib.Nat.{mod-lt, mod-mod, div-lt_iff_lt-mul}
use lib.Arith.{digits_lt}
use Rattle.maths.specs.Sums.{sum_n}
use Rattle.maths.specs.Bits.{bit_at}
use Rattle.maths.specs.Bytes.{pack}
use Rattle.maths.proofs.Bytes.{length_pack, bit_at_pack, pack_zero}
use Rattle.codes.specs.Frames.{parity, adds}
use Rattle.encoder.specs.Rows.{added, rows_at, blocks_turned}
use Rattle.encoder.proofs.Packed.{pack_ext}
use Rattle.encoder.proofs.Adding.{length_added, bit_added}
use Rattle.encoder.proofs.Horner.{stage, stage_all}

-- the n bytes hold the parity bits after o offsets
pub record Staged (n b rows : ℕ) (G : ℕ → ℕ → ℕ) (d : ℕ → ℕ) (o : ℕ) (t : List ℕ) : Type 0 where
  pub low : o ≤ b
  pub long : length t ≡ n
  pub is : t ≡ pack (stage b rows G d o) n

module _ (n b rows blocks : ℕ) (G : ℕ → ℕ → ℕ) (d : ℕ → ℕ) (some : zero < b) (blocks_all : n * 8 ≡ blocks * b) where
  -- the next bit of a block is in the part
  next_low : (j : ℕ) → j < n * 8 → j / b * b + (j % b + 1) % b < n * 8
  next_low j h =
      rw blocks_all (digits_lt {q = j / b} {m = blocks} ((div-lt_iff_lt-mul some).1 (rw blocks_all at h)) (mod-lt (j % b + 1) some))

  pub staged_none : {t : List ℕ} → t ≡ replicate n 0 → Staged n b rows G d 0 t
  unfolding stage
  staged_none {t} e =
      let made : t ≡ pack (λ v. 0) n = e ∙ sym (pack_zero n) in
      record { low = omega arith; long = ap length made ∙ length_pack (λ v. 0) n; is = made }

  module _ {t u v : List ℕ} {o : ℕ} (r : Staged n b rows G d o t) (h : o < b)
      (e : u ≡ added t (rows_at b G d o rows)) (f : v ≡ pack (blocks_turned b (bit_at u)) (length u)) where
    long_u : length u ≡ n
    long_u = ap length e ∙ length_added t _ ∙ r.long

    added_bit : (j : ℕ) → j < n * 8 → bit_at u j ≡ (stage b rows G d o j + rows_at b G d o rows j) % 2
    added_bit j l =
        let held : bit_at t j ≡ stage b rows G d o j % 2 = ap (λ (x : List ℕ). bit_at x j) r.is ∙ bit_at_pack (stage b rows G d o) n j l in
        ap (λ (x : List ℕ). bit_at x j) e ∙ bit_added t (rows_at b G d o rows) j (omega (arith, r.long)) ∙ omega (arith, held)

    pub staged_more : Staged n b rows G d (o + 1) v
    unfolding stage
    staged_more =
        let made : v ≡ pack (stage b rows G d (o + 1)) n =
        f ∙ rw (long_u, add-one o)
        (pack_ext _ _ n (λ j l. rw (added_bit (j / b * b + (j % b + 1) % b) (next_low j l)) (mod-mod _ 2))) in
        record { low = omega arith; long = ap length made ∙ length_pack _ n; is = made }

  pub staged_all : {t : List ℕ} {o : ℕ} → Staged n b rows G d o t → b ≤ o → t ≡ pack (parity b (rows * b) G d) n
  staged_all {t} {o} r h =
      let e : o ≡ b = omega (arith, r.low) in
      r.is ∙ rw e (pack_ext _ _ n (λ j l. stage_all b rows G d some j ∙ sym (mod-mod (sum_n (rows * b) (λ i. d i * adds b G i j)) 2)))
