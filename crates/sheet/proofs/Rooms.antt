-- The buffers of min-sum serve every code, known or not, but for the one that is too large. Assumes nothing.
use Rattle.std.proofs.Common.{◌≡◌, ℕ, ◌≤◌, ◌<◌, false, arith}
use native.Mathlib.Decide.{dec_lt}
use lib.Dec.{T, leb, leb→le}
use lib.ListN.{get_or-eq_default}
use Rattle.maths.specs.Tests.{pick, below}
use Rattle.maths.proofs.Tests.{below_at}
use Rattle.codes.specs.declared.CodeParams.{CodeParams}
use Rattle.codes.specs.Codes.{codes, rows, row, row_of}
use Rattle.sheet.specs.Sheet.{too_large, soft_sent, soft_working, soft_signs}

-- a code that is not known has a row of zeros
pub unknown_row : (code : ℕ) → codes ≤ code → row_of code ≡ row 0 0 0 0 0 0
unfolding rows
unknown_row code h = get_or-eq_default rows (row 0 0 0 0 0 0) h

-- a length of every row but those that are too large, and of the zeros of a code that is not known, is at most so much
others_most : (length : CodeParams → ℕ) (most : ℕ) → T (leb (length (row 0 0 0 0 0 0)) most)
    → T (below codes (λ c. leb (pick (too_large c) 0 (length (row_of c))) most)) → (code : ℕ) → too_large code ≡ false → length (row_of code) ≤ most
unfolding rows
others_most length most z t code h = go (dec_lt code codes)
  where
    go : Dec (code < codes) → length (row_of code) ≤ most
    go (yes l) = rw h at (leb→le _ most (below_at codes (λ c. leb (pick (too_large c) 0 (length (row_of c))) most) t code l))
    go (no l) = rw (unknown_row code (omega arith)) (leb→le _ most z)

-- what a code asks for that is served
module _ (code : ℕ) (r : CodeParams) (is : r ≡ row_of code) (other : too_large code ≡ false) where
  pub served_sent : r.n ≤ soft_sent
  unfolding rows
  served_sent = rw is (others_most (λ r. r.n) soft_sent tt tt code other)

  pub served_working : r.decode_ms_working_len ≤ soft_working
  unfolding rows
  served_working = rw is (others_most (λ r. r.decode_ms_working_len) soft_working tt tt code other)

  pub served_signs : r.decode_ms_working_u8_len ≤ soft_signs
  unfolding rows
  served_signs = rw is (others_most (λ r. r.decode_ms_working_u8_len) soft_signs tt tt code other)
