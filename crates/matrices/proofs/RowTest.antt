-- The rows of a generator as lists of bits, block by block, with blocks more behind them: a test whether they meet the equations. Turned and added
-- as lists, which is quick. Assumes nothing.
use mathlib.Core.Bool.{Bool, true, false}
use mathlib.Core.List.{List, [], ◌∷◌, ◌++◌}
use mathlib.Core.Logic.{inl, inr}
use mathlib.Core.Path.{◌≡◌, refl, sym, ap, ap₂, ◌∙◌, subst}
use Prim.Native.Nat.{ℕ, zero, suc, ◌+◌, ◌-◌, ◌*◌, ◌/◌, ◌%◌, ◌<◌}
use native.Mathlib.Nat.{zero-add, zero-mul, mod-lt, mod-add-mod, div-add-mod', div-lt_iff_lt-mul}
use native.Mathlib.Omega.{arith}
use borrow.Author.Tests.{ne_eqb}
use lib.Dec.{T, eqb, ltb, eqb→eq}
use lib.Arith.{digits_div, digits_mod}
use lib.ListN.{length, get_or, drop, replicate, length-replicate, get_or-append}
use lib.Seq.{get_or-drop}
use Rattle.maths.specs.Tests.{pick, both, all, below}
use Rattle.maths.specs.Lists.{span}
use Rattle.maths.specs.Sums.{Even}
use Rattle.maths.specs.Ones.{delta}
use Rattle.maths.proofs.Tests.{both_left, both_right, all_at, all_anywhere, below_at}
use Rattle.maths.proofs.Lists.{span_length}
use Rattle.maths.proofs.Slices.{span_get, replicate_at}
use Rattle.maths.proofs.Blocks.{zip_add, get_d_zip_add, turn_l, Block, get_d_turn_l}
use Rattle.codes.specs.Codes.{Known, row_of, generator_of, circulant_of}
use Rattle.codes.specs.Equations.{Hold, Meets}
use Rattle.matrices.specs.Circulants.{Circ, circs}
use Rattle.codes.specs.Frames.{generator_bit, generator}
use Rattle.matrices.specs.Generators.{systematic}
use Rattle.matrices.proofs.Sizes.{data_blocks, check_blocks, parity_blocks, sizes}
use Rattle.matrices.proofs.Circulants.{of_edges}
use Rattle.matrices.proofs.Rows.{in_row, sum_row}
use Rattle.matrices.proofs.Turning.{based, row_meets}

-- a block of which the first bit is 1
abbrev pub one_l : ℕ → List ℕ
one_l b = 1 ∷ replicate (b - 1) 0

get_d_one : (b y : ℕ) → get_or (one_l b) y 0 ≡ delta 0 y
get_d_one b zero = refl
get_d_one b (suc y) = rw (ne_eqb (suc y) 0 (λ e. omega arith)) (replicate_at (b - 1) 0 y)

-- what a row of circulants adds up to, over row c of G: that block among the K of the data, then the blocks given
abbrev pub row_list : ℕ → ℕ → ℕ → List (List ℕ) → List ℕ → List Circ → List ℕ
row_list b K c blocks one [] = []
row_list b K c blocks one (k ∷ ks) =
    let rest = row_list b K c blocks one ks in
    pick (ltb k.col K) (pick (eqb k.col c) (zip_add (turn_l (k.turn % b) one) rest) rest) (zip_add (turn_l (k.turn % b) (get_or blocks (k.col - K) [])) rest)

-- the generator of these blocks
abbrev gen_list : ℕ → (ℕ → List (List ℕ)) → ℕ → ℕ → ℕ
gen_list b blocks c j = get_or (get_or (blocks c) (j / b) []) (j % b) 0

-- ---- the test: in row c the blocks have b bits each, and every equation holds
abbrev all_even : List ℕ → Bool
all_even = all (λ x. eqb (x % 2) 0)

abbrev row_test : ℕ → ℕ → (ℕ → List (List ℕ)) → List (List Circ) → ℕ → Bool
row_test b K blocks rows c =
    let bs = blocks c in
    both (all (λ l. eqb (length l) b) bs) (let one = one_l b in all (λ row. all_even (row_list b K c bs one row)) rows)

abbrev all_rows : List Circ → ℕ → List (List Circ)
all_rows ks mb = span (in_row ks) 0 mb

block_at : (b : ℕ) (bs : List (List ℕ)) → T (all (λ l. eqb (length l) b) bs) → (q : ℕ) → Block b (get_or bs q [])
block_at b [] h q = inr refl
block_at b (l ∷ bs) h zero = inl (eqb→eq (length l) b (both_left (eqb (length l) b) (all (λ l. eqb (length l) b) bs) h))
block_at b (l ∷ bs) h (suc q) = block_at b bs (both_right (eqb (length l) b) (all (λ l. eqb (length l) b) bs) h) q

module _ (b K : ℕ) (pos : 0 < b) (blocks : ℕ → List (List ℕ)) where
  abbrev row : ℕ → ℕ → ℕ → ℕ
  row = based b K (gen_list b blocks)

  row_list_lem : (c t : ℕ) → t < b → ((q : ℕ) → Block b (get_or (blocks c) q [])) → (ks : List Circ)
      → get_or (row_list b K c (blocks c) (one_l b) ks) t 0 ≡ sum_row b ks (row c) t
  row_list_lem c t ht whole [] = refl
  row_list_lem c t ht whole (k ∷ ks) = go (ltb k.col K) (eqb k.col c) (row_list_lem c t ht whole ks)
    where
      rest : List ℕ
      rest = row_list b K c (blocks c) (one_l b) ks

      s : ℕ
      s = k.turn % b

      y : ℕ
      y = (k.turn + t) % b

      low : y < b
      low = mod-lt (k.turn + t) pos

      size : Block b (one_l b)
      size = inl (ap suc (length-replicate {A = ℕ} (b - 1) 0) ∙ omega arith)

      place : (l : List ℕ) → Block b l → get_or (zip_add (turn_l s l) rest) t 0 ≡ get_or l y 0 + get_or rest t 0
      place l h = get_d_zip_add (turn_l s l) rest t ∙ ap (λ (n : ℕ). n + get_or rest t 0)
          (get_d_turn_l b s l h (mod-lt k.turn pos) t ht ∙ ap (λ (n : ℕ). get_or l n 0) (mod-add-mod k.turn b t))

      go : (x z : Bool) → get_or rest t 0 ≡ sum_row b ks (row c) t
          → get_or (pick x (pick z (zip_add (turn_l s (one_l b)) rest) rest) (zip_add (turn_l s (get_or (blocks c) (k.col - K) [])) rest)) t 0
          ≡ pick x (pick z (delta 0 y) 0) (gen_list b blocks c ((k.col - K) * b + y)) + sum_row b ks (row c) t
      go true true ih = place (one_l b) size ∙ ap₂ (λ (m n : ℕ). m + n) (get_d_one b y) ih
      go true false ih = ih ∙ sym (zero-add (sum_row b ks (row c) t))
      go false z ih =
          place (get_or (blocks c) (k.col - K) []) (whole (k.col - K))
          ∙ ap₂ (λ (m n : ℕ). m + n)
          (sym (ap₂ (λ (m n : ℕ). get_or (get_or (blocks c) m []) n 0) (digits_div (k.col - K) low) (digits_mod (k.col - K) low))) ih

  rows_tested : (mb : ℕ) (ks : List Circ) → T (below K (row_test b K blocks (all_rows ks mb)))
      → (c a y : ℕ) → c < K → a < mb → y < b → Even (sum_row b (in_row ks a) (row c) y)
  rows_tested mb ks t c a y hc ha hy =
      let test : List Circ → Bool = λ js. all_even (row_list b K c (blocks c) (one_l b) js) in
      let lengths = all (λ l. eqb (length l) b) (blocks c) in
      let h = below_at K (row_test b K blocks (all_rows ks mb)) t c hc in
      let whole = block_at b (blocks c) (both_left lengths (all test (all_rows ks mb)) h) in
      let even = all_at test [] (all_rows ks mb) (both_right lengths (all test (all_rows ks mb)) h) a (rw (span_length (in_row ks) 0 mb) ha) in
      let row_even : T (test (in_row ks a)) = subst (λ (js : List Circ). T (test js)) (span_get (in_row ks) [] mb a ha) even in
      let sums = row_list b K c (blocks c) (one_l b) (in_row ks a) in
      subst Even (row_list_lem c y hy whole (in_row ks a)) (eqb→eq (get_or sums y 0 % 2) 0 (all_anywhere (λ x. eqb (x % 2) 0) 0 tt sums row_even y))

-- ---- the generator of a code: the blocks of its row c
abbrev pub generator_blocks : ℕ → List ℕ → ℕ → List (List ℕ)
generator_blocks code ws c =
    let b = circulant_of code in
    let w = ((row_of code).n - (row_of code).k) / 64 in
    let words = drop (c * w) ws in
    span (λ q. span (λ y. generator_bit w words 0 (q * b + y)) 0 b) 0 (parity_blocks code)

-- the test of its rows with blocks more behind them, which may be made of the circulants and the words; both are made once
abbrev pub rows_test : ℕ → (List Circ → List ℕ → ℕ → List (List ℕ)) → Bool
rows_test code more =
    let ks = circs code in
    let ws = generator_of code in
    let js = all_rows ks (check_blocks code) in
    let extra = more ks ws in
    below (data_blocks code) (row_test (circulant_of code) (data_blocks code) (λ c. generator_blocks code ws c ++ extra c) js)

module _ (code : ℕ) (known : Known code) (more : List Circ → List ℕ → ℕ → List (List ℕ)) where
  abbrev b : ℕ
  b = circulant_of code

  abbrev k : ℕ
  k = (row_of code).k

  pos : 0 < b
  pos = (sizes code known).some

  -- the generator with these blocks, and row i of its G
  unfoldable pub longer : ℕ → ℕ → ℕ
  longer = gen_list b (λ c. generator_blocks code (generator_of code) c ++ more (circs code) (generator_of code) c)

  unfoldable pub long_row : ℕ → ℕ → ℕ
  long_row = systematic b k longer

  -- the first blocks are the generator's
  pub longer_same : (c j : ℕ) → j < parity_blocks code * b → longer c j ≡ generator code c j
  unfolding longer
  longer_same c j h =
      let w = ((row_of code).n - k) / 64 in
      let ws = generator_of code in
      let words = drop (c * w) ws in
      let rb = parity_blocks code in
      let block : ℕ → List ℕ = λ q. span (λ y. generator_bit w words 0 (q * b + y)) 0 b in
      let q : j / b < rb = (div-lt_iff_lt-mul pos).1 h in
      ap (λ (xs : List ℕ). get_or xs (j % b) 0)
      (get_or-append (span block 0 rb) (more (circs code) ws c) [] (j / b) (rw (span_length block 0 rb) q) ∙ span_get block [] rb (j / b) q)
      ∙ span_get (λ y. generator_bit w words 0 (j / b * b + y)) 0 b (j % b) (mod-lt j pos)
      ∙ ap (generator_bit w words 0) (div-add-mod' j b)
      ∙ rw (zero-mul w, zero-add (j / 64), get_or-drop (c * w) ws (j / 64) 0)

  -- and where the test holds it meets every equation
  pub long_meets : T (rows_test code more) → (i : ℕ) → i < k → Meets code (long_row i)
  unfolding longer long_row
  long_meets t i =
      of_edges code known (λ es m n k. i < k → Hold es m (systematic b k longer i))
      (row_meets b (data_blocks code) (check_blocks code) pos (circs code) longer
      (rows_tested b (data_blocks code) pos (λ c. generator_blocks code (generator_of code) c ++ more (circs code) (generator_of code) c) (check_blocks code) (circs code) t) i)
