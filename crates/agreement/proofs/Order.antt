-- Messages that are added from the last edge to the first leave another output: saturating sums depend on the order. Assumes nothing.
use mathlib.Core.Bool.{Bool}
use mathlib.Core.List.{append-nil, flat_map, reverse}
use mathlib.Core.Path.{◌≡◌, refl, sym, ap, ◌∙◌, fun_ext}
use Prim.Native.Nat.{ℕ}
use native.Mathlib.Omega.{arith}
use lib.IntN.{ℤ}
use lib.ListN.{length}
use Rattle.maths.specs.Tests.{pick}
use Rattle.maths.specs.Lists.{span, fold}
use Rattle.maths.specs.Bits.{bit_at}
use Rattle.tables.specs.Tables.{prototypes, thetas, phis}
use Rattle.codes.specs.Codes.{rows, tables}
use Rattle.codes.specs.Blocks.{block_of, cell_blocks, row_blocks, last_rows}
use Rattle.codes.specs.Edges.{edge_at, block_edges, blocks_of, edges}
use Rattle.report.specs.Report.{Told}
use Rattle.min_sum.specs.Soft.{clamp, add, subtract, negate, magnitude, hard, same, less}
use Rattle.min_sum.specs.Confidence.{i8}
use Rattle.min_sum.specs.MinSum.{Messages, hard_bits, numbered, add_message, take_message, restarted, renewed, start, pass, turn}
use Rattle.min_sum.specs.Hard.{to_hard, to_llrs}
use Rattle.min_sum.proofs.Marginals.{taken_marginals, added_length, start_quiet, quiet_added}
use Rattle.min_sum.proofs.Success.{steady}
use Rattle.agreement.specs.Demands.{DecodesAs}
use Rattle.agreement.specs.Ours.{min_summing}
use Rattle.agreement.specs.Idle.{backwards_pass, adds_backwards}
use Rattle.agreement.proofs.Passes.{
  spoilt,
  soft_lent,
  llrs,
  begun,
  next,
  given_bits,
  first_bits,
  two_passes,
  soft_accepted,
  llrs_long,
  output_bit,
  next_output,
}

abbrev back : Messages ℤ → Messages ℤ
back = backwards_pass i8 (edges 0) 64 0 llrs

back_marginals : (s : Messages ℤ) → (back s).marginals ≡ (fold (add_message i8) (reverse (numbered 0 (edges 0))) (restarted i8 llrs 0 s)).marginals
unfolding renewed
back_marginals s = taken_marginals i8 (numbered 0 (edges 0)) (renewed i8 64 (fold (add_message i8) (reverse (numbered 0 (edges 0))) (restarted i8 llrs 0 s)))

back_long : (s : Messages ℤ) → length (back s).marginals ≡ 128
unfolding restarted
back_long s =
    ap length (back_marginals s) ∙ added_length i8 (reverse (numbered 0 (edges 0))) (restarted i8 llrs 0 s) ∙ ap length (append-nil llrs) ∙ llrs_long

-- its first pass leaves the word as the other order does
back_first : hard_bits i8 (back begun).marginals ≡ bit_at spoilt
unfolding restarted
back_first =
    fun_ext (λ v. ap (λ (xs : _). hard_bits i8 xs v) (back_marginals begun)
    ∙ ap (λ (b : Bool). pick b 1 0)
    (quiet_added i8 (steady 127) (reverse (numbered 0 (edges 0))) (restarted i8 llrs 0 begun) (start_quiet i8 (edges 0) 64 0 llrs) (λ i. tt) v)
    ∙ given_bits v)

-- the second another bit 9
next_bit : hard_bits i8 (next (next begun)).marginals 9 ≡ 0
unfolding rows tables prototypes thetas phis block_of cell_blocks row_blocks last_rows flat_map blocks_of edges block_edges edge_at span fold clamp add subtract negate magnitude hard same less numbered add_message take_message restarted renewed start pass to_llrs
next_bit = refl

back_bit : hard_bits i8 (back (back begun)).marginals 9 ≡ 1
unfolding rows tables prototypes thetas phis block_of cell_blocks row_blocks last_rows flat_map blocks_of edges block_edges edge_at span fold clamp add subtract negate magnitude hard same less numbered add_message take_message restarted renewed start to_llrs
back_bit = refl

pub another_order : DecodesAs (min_summing i8) (adds_backwards i8) → ⊥
unfolding turn rows
another_order same =
    let bit : Messages ℤ → ℕ = λ s. bit_at (to_hard i8 s.marginals) 9 in
    let e = ap (λ (x : Told). bit_at x.output 9) (same 0 (soft_lent spoilt) 2 (soft_accepted spoilt refl 2 (omega arith))) in
    let one = ap bit (two_passes back back_first) ∙ output_bit (back (back begun)).marginals (back_long (back begun)) 9 (omega arith) ∙ back_bit in
    let none = ap bit (two_passes next first_bits) ∙ next_output (next begun) 9 (omega arith) ∙ next_bit in
    let z : ◌≡◌ {A = ℕ} 1 0 = sym one ∙ e ∙ none in
    omega arith
