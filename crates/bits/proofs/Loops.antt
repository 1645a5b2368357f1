-- The loops over bytes: what holds at a turn, and why it holds at the next, for `search loops`. Assumes nothing.
use mathlib.Core.List.{List}
use mathlib.Core.Path.{◌≡◌, refl, ap, ◌∙◌}
use Prim.Native.Nat.{ℕ, ◌+◌, ◌*◌, ◌≤◌, ◌<◌, max}
use native.Mathlib.Omega.{arith}
use borrow.Author.Rules.{rules}
use lib.ListN.{length, get_or, set, drop, length-set}
use lib.Seq.{sets}
use Rattle.maths.specs.Bits.{bit_at}
use Rattle.maths.specs.Bytes.{byte}
use Rattle.maths.specs.Lists.{overwrite, largest_of}
use Rattle.maths.proofs.Bytes.{byte_from}
use Rattle.maths.proofs.Slices.{overwrite_none, overwrite_more, overwrite_sets, largest_turn, largest_end}
use Rattle.bits.specs.Packed.{whole_bytes, eight, unpacked, packed}
use Rattle.bits.proofs.Packed.{eight_bits}

-- ---- the bits of n bytes of s are put at the start of d₀, of which those of i bytes stand there
pub record Unpacking (s : List ℕ) (n : ℕ) (d₀ : List ℕ) (i : ℕ) (d : List ℕ) : Type 0 where
  pub low : i ≤ n
  pub count : n ≡ whole_bytes (length s) (length d₀)
  pub long : length d ≡ length d₀
  pub front : d ≡ overwrite (bit_at s) (8 * i) d₀

module _ {s : List ℕ} {n : ℕ} {d₀ : List ℕ} where
  pub unpack_begins : n ≡ whole_bytes (length s) (length d₀) → Unpacking s n d₀ 0 d₀
  unpack_begins e = record { low = omega arith; count = e; long = refl; front = overwrite_none (bit_at s) d₀ }

  module _ {i : ℕ} {d : List ℕ} (u : Unpacking s n d₀ i d) where
    pub unpack_more : {d' : List ℕ} → i < n → d' ≡ sets d (8 * i) (eight (get_or s i 0)) → length d' ≡ length d → Unpacking s n d₀ (i + 1) d'
    unpack_more h e l =
        let k : 8 * (i + 1) ≡ 8 * i + 8 = omega arith in
        record {
          low = omega arith;
          count = u.count;
          long = l ∙ u.long;
          front = e ∙ ap (sets d (8 * i)) (eight_bits s i refl) ∙ rw (u.front, k) (overwrite_sets (bit_at s) d₀ 8 (8 * i) (omega (arith, u.count)));
        }

    pub unpack_ends : n ≤ i → d ≡ unpacked s d₀
    unpack_ends h =
        let e : i ≡ whole_bytes (length s) (length d₀) = omega (arith, u.count, u.low) in
        u.front ∙ ap (λ (k : ℕ). overwrite (bit_at s) (8 * k) d₀) e

-- ---- n bytes of the bits w are put at the start of d₀, of which i stand there
pub record Packing (w : List ℕ) (n : ℕ) (d₀ : List ℕ) (i : ℕ) (d : List ℕ) : Type 0 where
  pub low : i ≤ n
  pub count : n ≡ whole_bytes (length d₀) (length w)
  pub long : length d ≡ length d₀
  pub front : d ≡ overwrite (byte (λ v. get_or w v 0)) i d₀

module _ {w : List ℕ} {n : ℕ} {d₀ : List ℕ} where
  pub pack_begins : n ≡ whole_bytes (length d₀) (length w) → Packing w n d₀ 0 d₀
  pack_begins e = record { low = omega arith; count = e; long = refl; front = overwrite_none (byte (λ v. get_or w v 0)) d₀ }

  module _ {i : ℕ} {d : List ℕ} (p : Packing w n d₀ i d) where
    pub pack_more : {x : ℕ} → i < n → x ≡ byte (λ t. get_or w (8 * i + t) 0) 0 → Packing w n d₀ (i + 1) (set d i x)
    pack_more {x} h e =
        record {
          low = omega arith;
          count = p.count;
          long = length-set d i x ∙ p.long;
          front = overwrite_more (byte (λ v. get_or w v 0)) d₀ i p.front (omega (arith, p.count)) (e ∙ byte_from (λ v. get_or w v 0) i);
        }

    pub pack_ends : n ≤ i → d ≡ packed w d₀
    pack_ends h =
        let e : i ≡ whole_bytes (length d₀) (length w) = omega (arith, p.count, p.low) in
        p.front ∙ ap (λ (k : ℕ). overwrite (byte (λ v. get_or w v 0)) k d₀) e

-- ---- the largest of the first i, and of the rest, is the largest of all
pub record Comparing (s : List ℕ) (i top : ℕ) : Type 0 where
  pub low : i ≤ length s
  pub rest : max top (largest_of (drop i s)) ≡ largest_of s

module _ {s : List ℕ} where
  pub compare_begins : Comparing s 0 0
  compare_begins = record { low = omega arith; rest = omega arith }

  module _ {i top : ℕ} (c : Comparing s i top) where
    pub compare_more : {t : ℕ} → i < length s → t ≡ max top (get_or s i 0) → Comparing s (i + 1) t
    compare_more h e = record { low = omega arith; rest = largest_turn s i top c.rest h e }

    pub compare_ends : length s ≤ i → top ≡ largest_of s
    compare_ends h = largest_end s i top c.rest h

pub ruleset loops = (unpack_begins, unpack_more, unpack_ends, pack_begins, pack_more, pack_ends, compare_begins, compare_more, compare_ends, rules)
