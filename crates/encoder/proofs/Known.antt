-- The sizes of the codes' frames, and a frame of parity bits that is the code's. Assumes nothing.
use mathlib.Core.List.{List, ◌++◌}
use mathlib.Core.Path.{◌≡◌, refl, sym, ap, ◌∙◌}
use Prim.Native.Nat.{ℕ, ◌+◌, ◌-◌, ◌*◌, ◌/◌}
use native.Mathlib.Omega.{arith}
use Rattle.std.proofs.Common.{rules, lit<}
use lib.ListN.{length, take}
use Rattle.maths.specs.Lists.{span}
use Rattle.maths.specs.Bits.{bit_at}
use Rattle.maths.specs.Bytes.{pack}
use Rattle.maths.proofs.Lists.{span_same}
use Rattle.codes.specs.declared.CodeParams.{CodeParams}
use Rattle.codes.specs.declared.Code.{Code}
use Rattle.codes.specs.declared.Code.TheVariants.{TC128, TC256, TC512, TM1280, TM1536, TM2048, TM5120, TM6144, TM8192}
use Rattle.tables.specs.Words.{generators}
use Rattle.codes.specs.Codes.{codes, Known, rows, number_of, row_of, generator_of, circulant_of}
use Rattle.codes.specs.Frames.{parity, generator_bit, encoded_bytes}
use Rattle.codes.proofs.Codes.{roomy}
use Rattle.encoder.specs.Rows.{words_bit, row_bit}
use Rattle.encoder.specs.Sizes.{Parts}
use Rattle.encoder.proofs.Fitting.{data_bits}
use Rattle.encoder.proofs.Putting.{rows_generator}

-- how many parity bits a code has
abbrev parity_bits : ℕ → ℕ
parity_bits code = (row_of code).n - (row_of code).k

bytes_all : (code : ℕ) → Known code → (row_of code).n / 8 ≡ (row_of code).k / 8 + parity_bits code / 8
bytes_all code h = let r = roomy code h in omega (arith, r.k_low, r.sent, r.data_bytes)

parts : (code : ℕ) → Known code → (s g : List ℕ) → length s ≡ (row_of code).n / 8 → length g ≡ length (generator_of code)
    → Parts s g (row_of code).k (parity_bits code) (circulant_of code)
unfolding rows generators span
parts code h s g e words =
    record {
      some = (roomy code h).parity_low;
      bytes = sym (roomy code h).circulant_bytes;
      rows = sym (roomy code h).data_circulants;
      blocks = sym (roomy code h).parity_circulants;
      words = sym (roomy code h).parity_words;
      whole = e ∙ bytes_all code h;
      generator = words ∙ span_same (λ c. length (generator_of c)) (λ c. (row_of c).k / circulant_of c * (parity_bits c / 64)) codes refl code h;
    }

-- the parity part of a frame whose data are m
pub parity_parts : {s g m rows u : List ℕ} {k r b : ℕ} (part : ℕ) → Parts s g k r b → m ≡ take (k / 8) s → length m ≡ k / 8 → part ≡ r / 8
    → rows ≡ pack (words_bit g) (length g * 8) → u ≡ pack (parity b (length m * 8) (row_bit part rows) (bit_at m)) part
    → m ++ u ≡ take (k / 8) s ++ pack (parity b k (generator_bit (r / 64) g) (bit_at (take (k / 8) s))) (r / 8)
parity_parts {s} {g} {m} {rows} {u} {k} {r} {b} part z front l n e f =
    let bits : length m * 8 ≡ k = omega (arith, data_bits z) in
    let made : u ≡ pack (parity b k (generator_bit (r / 64) g) (bit_at m)) (r / 8) =
    f ∙ ap (λ (x : ℕ). pack (parity b (length m * 8) (row_bit x rows) (bit_at m)) x) n
    ∙ ap (λ (G : ℕ → ℕ → ℕ). pack (parity b (length m * 8) G (bit_at m)) (r / 8)) (rows_generator g e r z.words)
    ∙ ap (λ (x : ℕ). pack (parity b x (generator_bit (r / 64) g) (bit_at m)) (r / 8)) bits in
    ap (λ (x : List ℕ). m ++ x) made ∙ ap (λ (x : List ℕ). x ++ pack (parity b k (generator_bit (r / 64) g) (bit_at x)) (r / 8)) front

-- the number of a code is that of a known one
pub number_known : (code : Code) → Known (number_of code)
number_known TC128 = lit< tt
number_known TC256 = lit< tt
number_known TC512 = lit< tt
number_known TM1280 = lit< tt
number_known TM1536 = lit< tt
number_known TM2048 = lit< tt
number_known TM5120 = lit< tt
number_known TM6144 = lit< tt
number_known TM8192 = lit< tt

-- ---- a call with the row and the words of the code v
module _ (code v : Code) (row : CodeParams) (s g : List ℕ) (is : code ≡ v) (row_is : row ≡ row_of (number_of code)) (long : length s ≡ (row_of (number_of code)).n / 8) where
  pub known_parts : length g ≡ length (generator_of (number_of v)) → Parts s g row.k (row.n - row.k) row.circulant_size
  known_parts words =
      rw row_is (parts (number_of code) (number_known code) s g long (words ∙ ap (λ (c : Code). length (generator_of (number_of c))) (sym is)))

  pub known_frame : {t : List ℕ}
      → t ≡ take (row.k / 8) s ++ pack (parity row.circulant_size row.k (generator_bit ((row.n - row.k) / 64) g) (bit_at (take (row.k / 8) s))) ((row.n - row.k) / 8)
      → g ≡ generator_of (number_of v) → t ≡ encoded_bytes (number_of code) (take ((row_of (number_of code)).k / 8) s)
  unfolding encoded_bytes
  known_frame f words = rw (row_is, words, ← is) at f

pub ruleset framing = (known_parts, known_frame, rules)
