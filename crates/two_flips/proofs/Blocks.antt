-- From the tests of the first bit of each block to all bits and all pairs of bits. Assumes nothing.
use mathlib.Core.Bool.{Bool}
use mathlib.Core.Logic.{◌≢◌, ◌⊎◌, inl, inr}
use mathlib.Core.List.{List, [], ◌∷◌}
use mathlib.Core.Path.{◌≡◌, sym, ap, ◌∙◌, fun_ext, subst}
use Prim.Native.Nat.{ℕ, ◌+◌, ◌-◌, ◌*◌, ◌/◌, ◌%◌, ◌≤◌, ◌<◌}
use native.Mathlib.Nat.{add-zero, mod-lt, mod-eq_of_lt, div-lt_iff_lt-mul}
use native.Mathlib.Decide.{dec_lt}
use native.Mathlib.Omega.{arith}
use lib.Dec.{T, eqb, eqb→eq}
use borrow.Author.Tests.{eq-eqb}
use Rattle.maths.specs.Search.{either}
use Rattle.maths.specs.Ones.{delta}
use Rattle.maths.proofs.Tests.{both_left, both_right, below_at}
use Rattle.maths.proofs.Search.{either_cases}
use Rattle.maths.proofs.Ones.{delta_swap, delta_self}
use Rattle.maths.proofs.Turns.{turn_self}
use Rattle.matrices.specs.Circulants.{Circ, edges_of}
use Rattle.matrices.specs.Counts.{count}
use Rattle.matrices.proofs.Edges.{Ranged}
use Rattle.low_weights.proofs.Occurs.{occurs, Once, delta_apart}
use Rattle.low_weights.proofs.Lines.{bits_on}
use Rattle.low_weights.proofs.Turned.{rot, turned_word}
use Rattle.two_flips.specs.Clear.{Clear}
use Rattle.two_flips.specs.Flips.{degree, PairFlips}
use Rattle.two_flips.proofs.Scores.{score_at, touching_score, leads_clear}
use Rattle.two_flips.proofs.Mends.{Mends, mends_some}
use Rattle.two_flips.proofs.Pairs.{pair, pair_swap, own, both_mend, first_mends}
use Rattle.two_flips.proofs.Turning.{Back, rot_back, back_one, back_two, delta_rot, score_rot, mends_rot}
use Rattle.two_flips.proofs.Sparse.{tell, tell_occurs, all_occurs, near_score, mends, mends_sound}
use Rattle.two_flips.proofs.Circles.{checks_by, bits_count, check_count}
use Rattle.two_flips.proofs.Tests.{light_flips, around, beside, beside_other, pair_tested, bit_test, blocks_test}

-- two bits that differ
two_once : (x y : ℕ) → y ≢ x → Once (x ∷ y ∷ [])
two_once x y ne c = omega (arith, delta_apart x y c (λ e. ne (sym e)))

module _ (b mb nb : ℕ) (pos : 0 < b) (ks : List Circ) (ranged : Ranged (mb * b) (nb * b) (edges_of b ks))
    (once : (a v : ℕ) → count (edges_of b ks) a v ≤ 1) (test : T (blocks_test b nb ks)) where
  abbrev share : ℕ → ℕ → ℕ
  share x u = score_at (edges_of b ks) (delta x) u

  abbrev nearby : ℕ → List ℕ
  nearby x = around (bits_on b ks) (checks_by b ks) (nb * b) x x

  share_tell : (x u : ℕ) → share x u ≡ tell u (nearby x)
  share_tell x u =
      ap (λ (f : ℕ → ℕ). score_at (edges_of b ks) f u) (fun_ext (λ v. omega (arith, delta_swap x v)))
      ∙ near_score (edges_of b ks) (bits_on b ks) (checks_by b ks) (bits_count b pos ks) (check_count b pos ks) (x ∷ []) u
      ∙ sym (tell_occurs u (nearby x))

  -- ---- the first bit of a block
  module _ (q : ℕ) (hq : q < nb) where
    tested : T (bit_test (bits_on b ks) (checks_by b ks) (nb * b) (q * b))
    tested = below_at nb (λ q. bit_test (bits_on b ks) (checks_by b ks) (nb * b) (q * b)) test q hq

    first_degree : (share (q * b) (q * b) ≡ 3) ⊎ (share (q * b) (q * b) ≡ 5)
    first_degree = go (either_cases (eqb d 3) (eqb d 5) (both_left (either (eqb d 3) (eqb d 5)) _ tested))
      where
        d : ℕ
        d = tell (q * b) (nearby (q * b))

        go : T (eqb d 3) ⊎ T (eqb d 5) → (share (q * b) (q * b) ≡ 3) ⊎ (share (q * b) (q * b) ≡ 5)
        go (inl e) = inl (share_tell (q * b) (q * b) ∙ eqb→eq d 3 e)
        go (inr e) = inr (share_tell (q * b) (q * b) ∙ eqb→eq d 5 e)

    abbrev light : Bool
    light = eqb (tell (q * b) (nearby (q * b))) 3

    first_beside : (u : ℕ) → 0 < share (q * b) u → T (beside (bits_on b ks) (checks_by b ks) (nb * b) (q * b) (nearby (q * b)) light u)
    first_beside u some =
        all_occurs (beside (bits_on b ks) (checks_by b ks) (nb * b) (q * b) (nearby (q * b)) light) (nearby (q * b)) u
        (both_right (either light (eqb (tell (q * b) (nearby (q * b))) 5)) _ tested)
        (omega (arith, share_tell (q * b) u, tell_occurs u (nearby (q * b))))

    first_few : (u : ℕ) → u ≢ q * b → share (q * b) u ≤ 1
    first_few u ne = go (dec_lt 0 (share (q * b) u))
      where
        go : Dec (0 < share (q * b) u) → share (q * b) u ≤ 1
        go (no h) = omega arith
        go (yes h) =
            omega (arith, share_tell (q * b) u, (beside_other (bits_on b ks) (checks_by b ks) (nb * b) (q * b) (nearby (q * b)) light u ne (first_beside u h)).0)

    first_pair : (u : ℕ) → u ≢ q * b → 0 < share (q * b) u → share (q * b) (q * b) ≡ 3 → share u u ≡ 3
        → T (mends (bits_on b ks) (checks_by b ks) (nb * b) light_flips (q * b ∷ u ∷ []))
    first_pair u ne some three three' =
        pair_tested (bits_on b ks) (checks_by b ks) (nb * b) (q * b) light u
        (beside_other (bits_on b ks) (checks_by b ks) (nb * b) (q * b) (nearby (q * b)) light u ne (first_beside u some)).1
        (eq-eqb (tell (q * b) (nearby (q * b))) 3 (sym (share_tell (q * b) (q * b)) ∙ three))
        (sym (share_tell u u) ∙ three')

  -- as many shared where both bits are turned
  share_turn : (r s : ℕ) → Back b r s → Back b s r → (x u : ℕ) → share x u ≡ share (rot b s x) (rot b s u)
  share_turn r s there back x u =
      let e = score_rot b mb nb pos ks ranged r (delta x) (rot b s u) in
      let f : turned_word b r (delta x) ≡ delta (rot b s x) = fun_ext (delta_rot b pos r s there back x) in
      ap (share x) (sym (rot_back b pos s r back u)) ∙ sym e ∙ ap (λ (g : ℕ → ℕ). score_at (edges_of b ks) g (rot b s u)) f

  -- ---- any bit, turned to the first of its block
  module _ (x : ℕ) (hx : x < nb * b) where
    back : ℕ
    back = b - x % b

    forth_back : Back b (x % b) back
    unfolding back
    forth_back = subst (λ (r : ℕ). Back b (x % b) (b - r)) (mod-eq_of_lt (mod-lt x pos)) (back_one b pos (x % b))

    back_forth : Back b back (x % b)
    unfolding back
    back_forth = back_two b pos (x % b) (mod-lt x pos)

    turned_first : rot b back x ≡ x / b * b
    unfolding back
    turned_first = rw (turn_self b (x % b) (mod-lt x pos)) (add-zero (x / b * b))

    in_block : x / b < nb
    in_block = (div-lt_iff_lt-mul pos).1 hx

    share_rot : (u : ℕ) → share x u ≡ share (x / b * b) (rot b back u)
    share_rot u = share_turn (x % b) back forth_back back_forth x u ∙ ap (λ (y : ℕ). share y (rot b back u)) turned_first

    first_other : (u : ℕ) → u ≢ x → rot b back u ≢ x / b * b
    first_other u ne e = ne (sym (rot_back b pos back (x % b) back_forth u) ∙ ap (rot b (x % b)) (e ∙ sym turned_first) ∙ rot_back b pos back (x % b) back_forth x)

    -- three or five edges
    pub three_or_five : (share x x ≡ 3) ⊎ (share x x ≡ 5)
    three_or_five = subst (λ (d : ℕ). (d ≡ 3) ⊎ (d ≡ 5)) (sym (share_rot x ∙ ap (share (x / b * b)) turned_first)) (first_degree (x / b) in_block)

    -- at most one check with any other bit
    pub few : (u : ℕ) → u ≢ x → share x u ≤ 1
    few u ne = rw (share_rot u) (first_few (x / b) in_block (rot b back u) (first_other u ne))

    pub clear : Clear (edges_of b ks) (nb * b) x
    clear = leads_clear (edges_of b ks) (nb * b) x (record { some = (go three_or_five).0; most = λ u h ne. omega (arith, few u ne, (go three_or_five).1) })
      where
        go : (share x x ≡ 3) ⊎ (share x x ≡ 5) → (0 < share x x) × (2 < share x x)
        go (inl e) = (omega arith, omega arith)
        go (inr e) = (omega arith, omega arith)

    first_turned : rot b (x % b) (x / b * b) ≡ x
    first_turned = ap (rot b (x % b)) (sym turned_first) ∙ rot_back b pos back (x % b) back_forth x

    -- two bits of three edges that share a check
    pub light_mends : (y : ℕ) → y < nb * b → y ≢ x → 0 < share x y → share x x ≡ 3 → share y y ≡ 3 → (k : ℕ) × (k ≤ light_flips) × Mends (edges_of b ks) (nb * b) k (pair x y)
    light_mends y hy ne some three three' =
        let x₀ = x / b * b in
        let y₀ = rot b back y in
        let ne₀ = first_other y ne in
        let t = first_pair (x / b) in_block y₀ ne₀ (rw (share_rot y) at some) (sym (ap (share x₀) turned_first) ∙ sym (share_rot x) ∙ three)
        (sym (share_turn (x % b) back forth_back back_forth y y) ∙ three') in
        let z = mends_sound (edges_of b ks) (bits_on b ks) (checks_by b ks) (bits_count b pos ks) (check_count b pos ks) (nb * b) light_flips (x₀ ∷ y₀ ∷ []) (two_once x₀ y₀ ne₀) t in
        let turn = mends_rot b mb nb pos ks ranged back (x % b) back_forth forth_back z.0 (occurs (x₀ ∷ y₀ ∷ [])) z.2 in
        (z.0, z.1, subst (Mends (edges_of b ks) (nb * b) z.0) (fun_ext (λ v. at v)) turn)
      where
        at : (v : ℕ) → turned_word b back (occurs (x / b * b ∷ rot b back y ∷ [])) v ≡ pair x y v
        at v =
            let here = delta_swap (rot b back v) (x / b * b) ∙ delta_rot b pos back (x % b) back_forth forth_back (x / b * b) v ∙ ap (λ (u : ℕ). delta u v) first_turned in
            let there = delta_swap (rot b back v) (rot b back y) ∙ delta_rot b pos back (x % b) back_forth forth_back (rot b back y) v
            ∙ ap (λ (u : ℕ). delta u v) (rot_back b pos back (x % b) back_forth y) in
            omega arith

  -- ---- any two bits: in how many flips, by their edges
  module _ (x y : ℕ) (hx : x < nb * b) (hy : y < nb * b) (ne : x ≢ y) where
    abbrev Together : Type 0
    Together = (k : ℕ) × PairFlips (edges_of b ks) x y k × Mends (edges_of b ks) (nb * b) k (pair x y)

    degree_x : share x x ≡ degree (edges_of b ks) x
    degree_x = own (edges_of b ks) (mb * b) (nb * b) ranged once x

    degree_y : share y y ≡ degree (edges_of b ks) y
    degree_y = own (edges_of b ks) (mb * b) (nb * b) ranged once y

    ne' : y ≢ x
    ne' e = ne (sym e)

    -- both at once
    at_once : share x x ≡ share y y → 2 + share x y < share x x → Together
    at_once same large = (
      1,
      record { some = omega arith; most = omega arith; unlike = λ d. absurd (d (omega (arith, degree_x, degree_y))); apart = λ d z. omega arith; five = λ d e. omega arith },
      both_mend (edges_of b ks) (mb * b) (nb * b) ranged once x y hx hy ne (few x hx) (few y hy) same large,
    )

    -- one after the other
    in_turn_lem : share x x ≢ share y y → Mends (edges_of b ks) (nb * b) 2 (pair x y) → Together
    in_turn_lem other z =
        let d : degree (edges_of b ks) x ≢ degree (edges_of b ks) y = λ e. other (omega (arith, degree_x, degree_y)) in
        (2, record { some = omega arith; most = omega arith; unlike = λ d. omega arith; apart = λ e z. absurd (d e); five = λ e f. absurd (d (e ∙ sym f)) }, z)

    light_pair : share x x ≡ 3 → share y y ≡ 3 → 0 < share x y → Together
    light_pair three three' h =
        let z = light_mends x hx y hy ne' h three three' in
        let some = mends_some z.2 x hx (omega (arith, delta_self x)) in (
          z.0,
          record {
            some = some;
            most = z.1;
            unlike = λ d. absurd (d (omega (arith, degree_x, degree_y)));
            apart = λ d e. absurd (omega (arith, touching_score (edges_of b ks) x y));
            five = λ d e. absurd (omega (arith, degree_x));
          },
          z.2,
        )

    pub pairs_mend : Together
    pairs_mend = go (three_or_five x hx) (three_or_five y hy) (dec_lt 0 (share x y))
      where
        go : (share x x ≡ 3) ⊎ (share x x ≡ 5) → (share y y ≡ 3) ⊎ (share y y ≡ 5) → Dec (0 < share x y) → Together
        go (inl p) (inl q) (yes h) = light_pair p q h
        go (inl p) (inl q) (no h) = at_once (omega arith) (omega arith)
        go (inr p) (inr q) d = at_once (omega arith) (omega (arith, few x hx y ne'))
        go (inr p) (inl q) d =
            in_turn_lem (λ e. omega arith)
            (first_mends (edges_of b ks) (mb * b) (nb * b) ranged once x y hx hy ne (few x hx) (few y hy) (omega arith) (omega arith) (clear y hy))
        go (inl p) (inr q) d =
            in_turn_lem (λ e. omega arith)
            (subst (Mends (edges_of b ks) (nb * b) 2) (pair_swap (edges_of b ks) (mb * b) (nb * b) ranged once y x)
            (first_mends (edges_of b ks) (mb * b) (nb * b) ranged once y x hy hx ne' (few y hy) (few x hx) (omega arith) (omega arith) (clear x hx)))
