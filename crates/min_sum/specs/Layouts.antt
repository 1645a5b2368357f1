-- How many elements the messages have, which runs are their edges, and the buffers of a code. Assumes nothing.
use Rattle.std.specs.Prelude.{Bool, ◌≡◌, ℕ, ◌+◌, ◌*◌, ◌≤◌, T, eqb, leb, length}
use mathlib.Core.List.{List, flat_map}
use Rattle.maths.specs.Tests.{both, all}
use Rattle.codes.specs.Codes.{Known, row_of, bits_in, checks_in}
use Rattle.runs.specs.Runs.{run_edges, within, room}
use Rattle.runs.specs.declared.EdgeRun.{EdgeRun}
use Rattle.min_sum.specs.declared.layout.Layout.{Layout}

-- the layout of a code's working buffer: each part after the one before it
abbrev pub laid_out : ℕ → ℕ → ℕ → Layout
laid_out edges bits checks =
    record { edges = edges; bits = bits; checks = checks; marginals = 2 * edges; first = 2 * edges + bits; second = 2 * edges + bits + checks }

abbrev pub layout_of : ℕ → Layout
layout_of code = laid_out (row_of code).paritycheck_sum (bits_in code) (checks_in code)

-- runs, not too many, lie within a layout and are all its edges
unfoldable pub make_up : Layout → List EdgeRun → Bool
make_up l rs = both (leb (length rs) room) (both (all (within l.checks l.bits) rs) (eqb (length (flat_map run_edges rs)) l.edges))

-- n numbers have room for u and v, the marginals and both minima of a layout, m bytes for its checks; so many LLRs are not more than its bits
unfoldable pub lies_in : Layout → ℕ → ℕ → ℕ → Bool
lies_in l n m llrs = both (leb (2 * l.edges + l.bits + 2 * l.checks) n) (both (leb l.checks m) (leb llrs l.bits))

-- both: messages over these runs can be exchanged in such buffers
unfoldable pub ready_for : Layout → ℕ → ℕ → ℕ → List EdgeRun → Bool
ready_for l n m llrs rs = both (lies_in l n m llrs) (make_up l rs)

-- u and v for each edge, a marginal for each bit and two minima for each check make up w numbers; there are s bytes, one for each check
pub record Sized (l : Layout) (w s : ℕ) : Type 0 where
  pub working : w ≡ 2 * l.edges + l.bits + 2 * l.checks
  pub marks : s ≡ l.checks

-- size edges from number t, check a and bit v on are within a layout
pub record Inside (l : Layout) (t a v size : ℕ) : Type 0 where
  pub numbers : t + size ≤ l.edges
  pub checks : a + size ≤ l.checks
  pub bits : v + size ≤ l.bits

-- the runs that are left after t edges make up the rest of a layout's edges
pub record Rest (l : Layout) (t : ℕ) (rs : List EdgeRun) : Type 0 where
  pub all_edges : t + length (flat_map run_edges rs) ≡ l.edges
  pub inside : T (all (within l.checks l.bits) rs)

-- a pass over the runs rs, with so many LLRs, can be made
pub record Ready (l : Layout) (rs : List EdgeRun) (llrs : ℕ) : Type 0 where
  pub short : length rs ≤ room
  pub runs : Rest l 0 rs
  pub few : llrs ≤ l.bits

-- the buffers of a code, by their lengths
pub record Lent (code llrs output working : ℕ) : Type 0 where
  pub is_known : Known code
  pub llrs_long : llrs ≡ (row_of code).n
  pub output_long : output ≡ (row_of code).output_len
  pub working_long : working ≡ (row_of code).decode_ms_working_len
