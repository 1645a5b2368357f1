-- The frames of the TM codes, completed: they meet every equation, and no other word with the same sent bits does. Assumes nothing.
use mathlib.Core.Bool.{Bool, true, false}
use mathlib.Core.Path.{◌≡◌, refl, sym, ap, ◌∙◌}
use Prim.Native.Nat.{ℕ, ◌+◌, ◌*◌, ◌%◌, ◌<◌}
use native.Mathlib.Nat.{mod-eq_of_lt}
use native.Mathlib.Decide.{dec_lt}
use native.Mathlib.Omega.{arith}
use borrow.Author.Tests.{lt-ltb, le-leb, lt-leb}
use Rattle.maths.specs.Tests.{pick}
use Rattle.maths.specs.Sums.{sum_l, sum_n}
use Rattle.maths.proofs.Sums.{sum_l_split, sum_n_ext}
use Rattle.codes.specs.Codes.{Known, TM, row_of, bits_in, checks_in}
use Rattle.codes.specs.Edges.{edges}
use Rattle.codes.specs.Equations.{bits_of, Meets}
use Rattle.runs.proofs.Flat.{edges_ranged}
use Rattle.codes.specs.Frames.{frame_of}
use Rattle.matrices.proofs.Edges.{hold_sum, par_below, meets_same}
use Rattle.matrices.proofs.Generators.{frame_of_product}
use Rattle.matrices.proofs.RowTest.{long_row, long_meets}
use Rattle.matrices.proofs.RowSame.{row_same}
use Rattle.bit_flip.specs.Outcome.{punctured}
use Rattle.telemetry.specs.Completion.{lone, sent_parity, completion}
use Rattle.telemetry.proofs.Sizes.{cut}
use Rattle.telemetry.proofs.Alone.{lone_sum}
use Rattle.telemetry.proofs.Votes.{sent_parity_low, where_punctured}
use Rattle.telemetry.proofs.Tests.{filling}
use Rattle.telemetry.proofs.RowsComplete.{rows_complete_lem}

module _ (code : ℕ) (tm : TM code) where
  abbrev known : Known code
  known = tm.1

  -- ---- the sum of the completed rows of G that some data takes: it meets every equation, and starts with the frame of the data
  abbrev whole : (ℕ → ℕ) → ℕ → ℕ
  whole d v = sum_n (row_of code).k (λ i. d i * long_row code known (filling code) i v)

  whole_meets : (d : ℕ → ℕ) → Meets code (whole d)
  whole_meets d =
      hold_sum (edges code) (checks_in code) (row_of code).k d (long_row code known (filling code)) (whole d)
      (long_meets code known (filling code) (rows_complete_lem code tm)) (λ v. refl)

  whole_sent : (d : ℕ → ℕ) (v : ℕ) → v < (row_of code).n → whole d v % 2 ≡ frame_of code d v % 2
  whole_sent d v h =
      ap (λ (x : ℕ). x % 2)
      (sum_n_ext (row_of code).k _ _ (λ i l. ap (λ (x : ℕ). d i * x) (row_same code known (filling code) i v h)))
      ∙ sym (frame_of_product code known d v)

  -- ---- any word: the bits that are sent, modulo 2, decide the parity of a check's sent bits,
  module _ (w w' : ℕ → ℕ) (same : (v : ℕ) → v < (row_of code).n → w v % 2 ≡ w' v % 2) where
    sent_parity_same : (a : ℕ) → sent_parity code w a ≡ sent_parity code w' a
    sent_parity_same a =
        par_below (checks_in code) (bits_in code) (edges code) (edges_ranged code known)
        (λ u. pick (punctured code u) 0 (w u)) (λ u. pick (punctured code u) 0 (w' u)) (λ v h. go v h (dec_lt v (row_of code).n)) a
      where
        go : (v : ℕ) → v < bits_in code → Dec (v < (row_of code).n) → pick (punctured code v) 0 (w v) % 2 ≡ pick (punctured code v) 0 (w' v) % 2
        go v h (yes l) = rw (lt-leb (row_of code).n v l) (same v l)
        go v h (no l) = rw (le-leb (row_of code).n v (omega arith), lt-ltb v (bits_in code) h)

    -- and with it the completion
    pub completion_same : (v : ℕ) → v < bits_in code → completion code w v % 2 ≡ completion code w' v % 2
    completion_same v h = go (dec_lt v (row_of code).n)
      where
        go : Dec (v < (row_of code).n) → completion code w v % 2 ≡ completion code w' v % 2
        go (yes l) = rw (lt-leb (row_of code).n v l) (same v l)
        go (no l) =
            rw (le-leb (row_of code).n v (omega arith), lt-ltb v (bits_in code) h)
            (ap (λ (x : ℕ). x % 2) (sent_parity_same (lone code v)))

  -- ---- a word that meets the equations
  module _ (w : ℕ → ℕ) (good : Meets code w) (v : ℕ) where
    -- its punctured bit is the parity of the sent bits of its check,
    punctured_bit : punctured code v ≡ true → w v % 2 ≡ sent_parity code w (lone code v)
    punctured_bit p =
        let (h, h') = where_punctured code v p in
        let vs = bits_of (edges code) (lone code v) in
        let even : sum_l vs w % 2 ≡ 0 = good (lone code v) (omega (arith, (cut code known).room)) in
        let parts : sum_l vs w ≡ sum_l vs (λ u. pick (punctured code u) 0 (w u)) + sum_l vs (λ u. pick (punctured code u) (w u) 0) = sum_l_split (punctured code) w vs in
        let one : sum_l vs (λ u. pick (punctured code u) (w u) 0) ≡ w v = lone_sum code tm v h h' w in
        omega arith

    -- so it is its own completion
    own_completion : w v % 2 ≡ completion code w v % 2
    own_completion = go (punctured code v) refl
      where
        go : (x : Bool) → punctured code v ≡ x → w v % 2 ≡ pick x (sent_parity code w (lone code v)) (w v) % 2
        go true p = punctured_bit p ∙ sym (mod-eq_of_lt (sent_parity_low code w (lone code v)))
        go false p = refl

  -- two words that meet the equations and agree on the bits that are sent agree on all: "exactly one completion"
  pub completion_only : (w w' : ℕ → ℕ) → ((v : ℕ) → v < (row_of code).n → w v % 2 ≡ w' v % 2) → Meets code w → Meets code w'
      → (v : ℕ) → v < bits_in code → w v % 2 ≡ w' v % 2
  completion_only w w' same good good' v h = own_completion w good v ∙ completion_same w w' same v h ∙ sym (own_completion w' good' v)

  -- the frame of any data, completed, meets every equation
  pub completion_meets : (d : ℕ → ℕ) → Meets code (completion code (frame_of code d))
  completion_meets d =
      meets_same code known (whole d) (completion code (frame_of code d))
      (λ v h. own_completion (whole d) (whole_meets d) v
      ∙ completion_same (whole d) (frame_of code d) (whole_sent d) v h)
      (whole_meets d)
