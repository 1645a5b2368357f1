-- For any word the erasure pass of a TM code gives each punctured bit the parity of the sent bits of its one check. Assumes nothing.
use mathlib.Core.Bool.{Bool, true, false}
use mathlib.Core.List.{List}
use mathlib.Core.Path.{◌≡◌, refl, ap, ◌∙◌}
use Prim.Native.Nat.{ℕ, zero, suc, ◌+◌, ◌-◌, ◌≤◌, ◌<◌}
use native.Mathlib.Nat.{mod-lt}
use native.Mathlib.Omega.{arith}
use lib.Dec.{eqb, ltb, leb}
use lib.ListN.{length}
use borrow.Author.Tests.{ltb-true, leb-true, ne_eqb}
use Rattle.maths.specs.Tests.{pick, both}
use Rattle.maths.specs.Lists.{span}
use Rattle.maths.specs.Sums.{sum_l}
use Rattle.maths.proofs.Tests.{both_first, both_second}
use Rattle.maths.proofs.Lists.{span_ext}
use Rattle.maths.proofs.Sums.{sum_l_keep}
use Rattle.codes.specs.Codes.{TM, row_of, bits_in}
use Rattle.codes.specs.Edges.{edges}
use Rattle.codes.specs.Equations.{bits_of, checks_of, word_of}
use Rattle.bit_flip.specs.Erasures.{erased_edges, others, ayes, nays, voted}
use Rattle.bit_flip.specs.Outcome.{punctured}
use Rattle.telemetry.specs.Completion.{lone, sent_parity, completion}
use Rattle.telemetry.proofs.Alone.{alone_one}

pub sent_parity_low : (code : ℕ) (w : ℕ → ℕ) (a : ℕ) → sent_parity code w a < 2
sent_parity_low code w a = mod-lt (sum_l (bits_of (edges code) a) (λ u. pick (punctured code u) 0 (w u))) (omega arith)

-- the punctured bits are those from n on
pub where_punctured : (code v : ℕ) → punctured code v ≡ true → ((row_of code).n ≤ v) × (v < bits_in code)
where_punctured code v e =
    let l = leb (row_of code).n v in
    let u = ltb v (bits_in code) in
    (leb-true (row_of code).n v (both_first l u e), ltb-true v (bits_in code) (both_second l u e))

-- one vote for a bit or against it
bit_by : (x : ℕ) → x < 2 → pick (ltb (1 - x) x) 1 0 ≡ x
bit_by zero h = refl
bit_by (suc zero) h = refl
bit_by (suc (suc x)) h = absurd (omega arith)

module _ (code : ℕ) (tm : TM code) (w : List ℕ) where
  abbrev for : ℕ → ℕ
  for = ayes (punctured code) (edges code) w

  abbrev against : ℕ → ℕ
  against = nays (punctured code) (edges code) w

  module _ (v : ℕ) (p : punctured code v ≡ true) where
    -- the votes of its checks are that of one
    one_term : (g : ℕ → ℕ) → sum_l (checks_of (edges code) v) (λ a. pick (eqb (erased_edges (punctured code) (edges code) a) 1) (g a) 0) ≡ g (lone code v)
    one_term g =
        let (h, h') = where_punctured code v p in
        sum_l_keep (λ a. eqb (erased_edges (punctured code) (edges code) a) 1) g (checks_of (edges code) v)
        ∙ ap (λ (vs : List ℕ). sum_l vs g) (alone_one code tm v h h')
        ∙ omega arith

    one_aye : for v ≡ sent_parity code (word_of w) (lone code v)
    unfolding ayes others
    one_aye = one_term (others (punctured code) (edges code) w)

    one_nay : against v ≡ 1 - sent_parity code (word_of w) (lone code v)
    unfolding nays others
    one_nay = one_term (λ a. 1 - others (punctured code) (edges code) w a)

    -- one in all, whatever the word
    pub one_vote : for v + against v ≡ 1
    one_vote = omega (arith, one_aye, one_nay, sent_parity_low code (word_of w) (lone code v))

    voted_bit : pick (ltb (against v) (for v)) 1 0 ≡ sent_parity code (word_of w) (lone code v)
    voted_bit = rw (one_aye, one_nay) (bit_by (sent_parity code (word_of w) (lone code v)) (sent_parity_low code (word_of w) (lone code v)))

  -- so none is left undecided, by a tie or for want of a vote
  pub none_left : (v : ℕ) → both (punctured code v) (eqb (for v) (against v)) ≡ false
  none_left v = go (punctured code v) refl
    where
      go : (x : Bool) → punctured code v ≡ x → both x (eqb (for v) (against v)) ≡ false
      go true e = ne_eqb (for v) (against v) (λ t. omega (arith, one_vote v e))
      go false e = refl

  -- the erasure pass gives the completion of any word
  pub voted_completion : voted (punctured code) (edges code) w ≡ span (completion code (word_of w)) 0 (length w)
  unfolding voted
  voted_completion = span_ext _ _ 0 0 (length w) (λ i l. go (0 + i) (punctured code (0 + i)) refl)
    where
      go : (v : ℕ) (x : Bool) → punctured code v ≡ x
          → pick x (pick (ltb (against v) (for v)) 1 0) (word_of w v) ≡ pick x (sent_parity code (word_of w) (lone code v)) (word_of w v)
      go v true e = voted_bit v e
      go v false e = refl
