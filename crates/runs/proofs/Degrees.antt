-- No bit of a code has many edges: a block has at most four of one bit, and six blocks stand in one column. Assumes nothing.
use Rattle.std.proofs.Common.{sym, ◌≡◌, ℕ, zero, suc, ◌+◌, ◌-◌, ◌*◌, ◌/◌, ◌%◌, ◌<◌, ◌≤◌, Bool, true, false, T, eqb, ltb, leb, List, [], ◌∷◌, ◌++◌, length, get_or, refl, ap, ◌∙◌, subst, mul-le-mul_right, mod-lt, suc-mul, div-add-mod', arith, ltb→lt, leb→le, length-append, le-ltb, eq-eqb, ne_eqb}
use mathlib.Core.List.{flat_map}
use native.Mathlib.Decide.{ℕ_discrete, dec_lt}
use Rattle.maths.specs.Tests.{pick, both, all, below}
use Rattle.maths.specs.Lists.{span, keep}
use Rattle.maths.proofs.Tests.{both_left, both_right, below_at}
use Rattle.maths.proofs.Lists.{flat_map_cons, flat_map_append}
use Rattle.codes.specs.declared.parity_iter.Place.{Place}
use Rattle.codes.specs.declared.parity_iter.Block.{Block}
use Rattle.codes.specs.declared.parity_iter.Block.TheVariants.{Ends, Empty, Identity, Permutation}
use Rattle.tables.specs.Tables.{prototypes}
use Rattle.codes.specs.Codes.{codes, Known, tables, Matrix, matrix_of}
use Rattle.codes.specs.Blocks.{block_of, block_at, cell_blocks, row_blocks, last_rows}
use Rattle.codes.specs.Edges.{Edge, edge, blocks_of, edges}
use Rattle.runs.specs.declared.EdgeRun.{EdgeRun}
use Rattle.runs.specs.Runs.{run, run_edges, turned_runs, quarter, quarters, runs_at, block_runs, runs, within, laid}
use Rattle.codes.specs.Equations.{ends, check_of, bit_of, checks_of}
use Rattle.codes.proofs.Codes.{sized}
use Rattle.runs.proofs.Flat.{runs_flat}

-- how many edges a bit has
abbrev degree : List Edge → ℕ → ℕ
degree es v = length (checks_of es v)

ends_append : (near far : Edge → ℕ) (es fs : List Edge) (a : ℕ) → ends near far (es ++ fs) a ≡ ends near far es a ++ ends near far fs a
ends_append near far [] fs a = refl
ends_append near far (e ∷ es) fs a = ap (λ (l : List ℕ). pick (eqb (near e) a) (far e ∷ l) l) (ends_append near far es fs a) ∙ go (eqb (near e) a)
  where
    go : (b : Bool) → pick b (far e ∷ (ends near far es a ++ ends near far fs a)) (ends near far es a ++ ends near far fs a)
        ≡ pick b (far e ∷ ends near far es a) (ends near far es a) ++ ends near far fs a
    go true = refl
    go false = refl

degree_append : (es fs : List Edge) (v : ℕ) → degree (es ++ fs) v ≡ degree es v + degree fs v
degree_append es fs v = ap length (ends_append bit_of check_of es fs v) ∙ length-append (checks_of es v) (checks_of fs v)

-- ---- at most so many where the bit is one of n from b on, and none elsewhere
pub record Few (k b n v d : ℕ) : Type 0 where
  pub most : d ≤ k
  pub low : v < b → d ≡ 0
  pub high : b + n ≤ v → d ≡ 0

few_wider : {k b n v d : ℕ} (k' b' n' : ℕ) → k ≤ k' → b' ≤ b → b + n ≤ b' + n' → Few k b n v d → Few k' b' n' v d
few_wider k' b' n' hk hb hn f =
    record { most = omega (arith, f.most); low = λ h. f.low (omega arith); high = λ h. f.high (omega arith) }

few_none : (k b n v : ℕ) → Few k b n v 0
few_none k b n v = record { most = omega arith; low = λ h. refl; high = λ h. refl }

few_both : {k l b n v d e : ℕ} → Few k b n v d → Few l b n v e → Few (k + l) b n v (d + e)
few_both p q =
    record {
      most = omega (arith, p.most, q.most);
      low = λ h. omega (arith, p.low h, q.low h);
      high = λ h. omega (arith, p.high h, q.high h);
    }

-- two stretches that do not overlap
few_beside : {b n m v d e : ℕ} → Few 1 (b + m) n v d → Few 1 b m v e → Few 1 b (m + n) v (d + e)
few_beside {b} {n} {m} {v} {d} {e} p q =
    record {
      most = go (dec_lt v (b + m));
      low = λ h. omega (arith, p.low (omega arith), q.low h);
      high = λ h. omega (arith, p.high (omega arith), q.high (omega arith));
    }
  where
    go : Dec (v < b + m) → d + e ≤ 1
    go (yes h) = omega (arith, p.low h, q.most)
    go (no h) = omega (arith, p.most, q.high (omega arith))

-- ---- a run
lane_few : (a b s n v : ℕ) → Few 1 (b + s) n v (degree (span (λ i. edge (a + i) (b + i)) s n) v)
unfolding span
lane_few a b s zero v = few_none 1 (b + s) zero v
lane_few a b s (suc n) v = go (ℕ_discrete (b + s) v) (lane_few a b (suc s) n v)
  where
    rest : List ℕ
    rest = checks_of (span (λ i. edge (a + i) (b + i)) (suc s) n) v

    go : Dec (b + s ≡ v) → Few 1 (b + suc s) n v (length rest) → Few 1 (b + s) (suc n) v (length (pick (eqb (b + s) v) ((a + s) ∷ rest) rest))
    go (yes e) f =
        rw (eq-eqb (b + s) v e)
        (record { most = omega (arith, f.low (omega arith)); low = λ h. absurd (omega arith); high = λ h. absurd (omega arith) })
    go (no e) f =
        rw (ne_eqb (b + s) v e)
        (record { most = f.most; low = λ h. f.low (omega arith); high = λ h. f.high (omega arith) })

run_few : (a b n v : ℕ) → Few 1 b n v (degree (run_edges (run a b n)) v)
unfolding run_edges
run_few a b n v = few_wider 1 b n (omega arith) (omega arith) (omega arith) (lane_few a b 0 n v)

-- ---- the runs of a list
abbrev degree_in : List EdgeRun → ℕ → ℕ
degree_in rs v = degree (flat_map run_edges rs) v

degree_cons : (r : EdgeRun) (rs : List EdgeRun) (v : ℕ) → degree_in (r ∷ rs) v ≡ degree (run_edges r) v + degree_in rs v
degree_cons r rs v = ap (λ (es : List Edge). degree es v) (flat_map_cons run_edges r rs) ∙ degree_append (run_edges r) (flat_map run_edges rs) v

degree_join : (rs qs : List EdgeRun) (v : ℕ) → degree_in (rs ++ qs) v ≡ degree_in rs v + degree_in qs v
degree_join rs qs v = ap (λ (es : List Edge). degree es v) (flat_map_append run_edges rs qs) ∙ degree_append (flat_map run_edges rs) (flat_map run_edges qs) v

degree_nil : (v : ℕ) → degree_in [] v ≡ 0
unfolding flat_map
degree_nil v = refl

-- fewer runs have no more
kept_few : (f : EdgeRun → Bool) (rs : List EdgeRun) (v : ℕ) → degree_in (keep f rs) v ≤ degree_in rs v
kept_few f [] v = omega arith
kept_few f (r ∷ rs) v = go (f r) (kept_few f rs v)
  where
    go : (b : Bool) → degree_in (keep f rs) v ≤ degree_in rs v → degree_in (pick b (r ∷ keep f rs) (keep f rs)) v ≤ degree_in (r ∷ rs) v
    go true h = omega (arith, degree_cons r (keep f rs) v, degree_cons r rs v)
    go false h = omega (arith, degree_cons r rs v)

-- ---- a turned identity has one edge of a bit, the quarters of a permutation at most one each
turned_few : (a b turn size v : ℕ) → turn < size → Few 1 b size v (degree_in (turned_runs a b turn size) v)
unfolding turned_runs
turned_few a b turn size v h = go (ℕ_discrete turn 0)
  where
    go : Dec (turn ≡ 0) → Few 1 b size v (degree_in (turned_runs a b turn size) v)
    go (yes e) =
        rw (eq-eqb turn 0 e)
        (let d : degree_in (run a b size ∷ []) v ≡ degree (run_edges (run a b size)) v =
        degree_cons (run a b size) [] v ∙ omega (arith, degree_nil v) in
        rw d (run_few a b size v))
    go (no e) =
        let r = run a (b + turn) (size - turn) in
        let q = run (a + (size - turn)) b turn in
        let d : degree_in (r ∷ q ∷ []) v ≡ degree (run_edges r) v + degree (run_edges q) v =
        degree_cons r (q ∷ []) v ∙ ap (λ (k : ℕ). degree (run_edges r) v + k) (degree_cons q [] v ∙ omega (arith, degree_nil v)) in
        let f = few_beside (run_few a (b + turn) (size - turn) v) (run_few (a + (size - turn)) b turn v) in
        rw (ne_eqb turn 0 e, d) (few_wider 1 b size (omega arith) (omega arith) (omega arith) f)

module _ (m : ℕ) (theta : List ℕ) (phi : List (List ℕ)) (value a b v : ℕ) (pos : zero < m / 4) where
  quarters_few : (j : ℕ) → Few j b (4 * (m / 4)) v (degree_in (quarters m theta phi value a b j) v)
  unfolding quarters quarter
  quarters_few zero = rw (degree_nil v) (few_none 0 b (4 * (m / 4)) v)
  quarters_few (suc j) =
      let q = m / 4 in
      let z = (get_or theta value 0 + j) % 4 in
      let s = get_or (get_or phi j []) value 0 % q in
      let hz : z ≤ 3 = omega arith in
      let hm : z * q ≤ 3 * q = mul-le-mul_right q hz in
      let f = few_wider 1 b (4 * q) (omega arith) (omega arith) (omega arith) (turned_few (a + j * q) (b + z * q) s q v (mod-lt _ pos)) in
      let n : j + 1 ≡ suc j = omega arith in
      rw (degree_join (quarters m theta phi value a b j) (turned_runs (a + j * q) (b + z * q) s q) v, ← n) (few_both (quarters_few j) f)

block_few : (x : Matrix) (k : Block) (a b v : ℕ) → zero < x.size → zero < x.size / 4 → x.size % 4 ≡ 0
    → Few 4 b x.size v (degree_in (runs_at x.size x.theta x.phi k a b) v)
block_few x Ends a b v pos posq four = rw (degree_nil v) (few_none 4 b x.size v)
block_few x Empty a b v pos posq four = rw (degree_nil v) (few_none 4 b x.size v)
block_few x (Identity value) a b v pos posq four =
    few_wider 4 b x.size (omega arith) (omega arith) (omega arith) (turned_few a b (value % x.size) x.size v (mod-lt value pos))
block_few x (Permutation value) a b v pos posq four =
    few_wider 4 b x.size (omega arith) (omega arith) (omega arith) (quarters_few x.size x.theta x.phi value a b v posq 4)

-- ---- the blocks of a column
in_column : List Place → ℕ → ℕ
in_column [] c = 0
in_column (p ∷ ps) c = pick (eqb p.col c) (suc (in_column ps c)) (in_column ps c)

column_none : (ps : List Place) (c : ℕ) → T (all (λ p. ltb p.col 11) ps) → 11 ≤ c → in_column ps c ≡ 0
unfolding in_column
column_none [] c t h = refl
column_none (p ∷ ps) c t h =
    let l = ltb→lt p.col 11 (both_left (ltb p.col 11) (all (λ q. ltb q.col 11) ps) t) in
    rw (ne_eqb p.col c (λ e. omega arith)) (column_none ps c (both_right (ltb p.col 11) (all (λ q. ltb q.col 11) ps) t) h)

columns_test : ℕ → Bool
columns_test code = both (all (λ p. ltb p.col 11) (blocks_of code)) (below 11 (λ c. leb (in_column (blocks_of code) c) 6))

columns_few : T (below codes columns_test)
unfolding columns_test in_column tables prototypes blocks_of last_rows row_blocks cell_blocks block_of
columns_few = tt

column_few : (code c : ℕ) → Known code → in_column (blocks_of code) c ≤ 6
unfolding columns_test
column_few code c h = go (dec_lt c 11)
  where
    t : T (columns_test code)
    t = below_at codes columns_test columns_few code h

    go : Dec (c < 11) → in_column (blocks_of code) c ≤ 6
    go (yes k) = leb→le _ 6 (below_at 11 (λ c. leb (in_column (blocks_of code) c) 6) (both_right (all (λ p. ltb p.col 11) (blocks_of code)) _ t) c k)
    go (no k) = omega (arith, column_none (blocks_of code) c (both_left (all (λ p. ltb p.col 11) (blocks_of code)) _ t) (omega arith))

-- ---- a bit is in the column v / M
module _ (x : Matrix) (v : ℕ) (big : 16 ≤ x.size) (four : x.size % 4 ≡ 0) where
  place_few : (p : Place) → degree_in (block_runs x p) v ≤ pick (eqb p.col (v / x.size)) 4 0
  unfolding block_runs
  place_few p = go (ℕ_discrete p.col (v / m))
    where
      m : ℕ
      m = x.size

      f : Few 4 (p.col * m) m v (degree_in (runs_at m x.theta x.phi (block_at x.prototype p) (p.row * m) (p.col * m)) v)
      f = block_few x (block_at x.prototype p) (p.row * m) (p.col * m) v (omega arith) (omega arith) four

      go : Dec (p.col ≡ v / m) → degree_in (runs_at m x.theta x.phi (block_at x.prototype p) (p.row * m) (p.col * m)) v ≤ pick (eqb p.col (v / m)) 4 0
      go (yes e) = rw (eq-eqb p.col (v / m) e) f.most
      go (no e) = rw (ne_eqb p.col (v / m) e) (side (dec_lt p.col (v / m)))
        where
          d : v / m * m + v % m ≡ v
          d = div-add-mod' v m

          l : v % m < m
          l = mod-lt v (omega arith)

          side : Dec (p.col < v / m) → degree_in (runs_at m x.theta x.phi (block_at x.prototype p) (p.row * m) (p.col * m)) v ≤ 0
          side (yes k) =
              let t : suc p.col * m ≤ v / m * m = mul-le-mul_right m k in
              omega (arith, f.high (omega (arith, suc-mul p.col m, d)))
          side (no k) =
              let g : suc (v / m) ≤ p.col = omega arith in
              let t : suc (v / m) * m ≤ p.col * m = mul-le-mul_right m g in
              omega (arith, f.low (omega (arith, suc-mul (v / m) m, d, l)))

  places_few : (ps : List Place) → degree_in (flat_map (block_runs x) ps) v ≤ 4 * in_column ps (v / x.size)
  unfolding flat_map in_column
  places_few [] = omega arith
  places_few (p ∷ ps) =
      let h = place_few p in
      let d = degree_join (block_runs x p) (flat_map (block_runs x) ps) v in
      go (eqb p.col (v / x.size)) d h (places_few ps)
    where
      go : (t : Bool) → degree_in (block_runs x p ++ flat_map (block_runs x) ps) v ≡ degree_in (block_runs x p) v + degree_in (flat_map (block_runs x) ps) v
          → degree_in (block_runs x p) v ≤ pick t 4 0 → degree_in (flat_map (block_runs x) ps) v ≤ 4 * in_column ps (v / x.size)
          → degree_in (block_runs x p ++ flat_map (block_runs x) ps) v ≤ 4 * pick t (suc (in_column ps (v / x.size))) (in_column ps (v / x.size))
      go true d h ih = omega arith
      go false d h ih = omega arith

few_known : (code v : ℕ) → Known code → degree (edges code) v ≤ 24
unfolding runs
few_known code v h =
    let z = sized code h in
    let p = places_few (matrix_of code) v z.low z.four (blocks_of code) in
    let c = column_few code (v / (matrix_of code).size) h in
    subst (λ (es : List Edge). degree es v ≤ 24) (runs_flat code) (omega arith)

few_unknown : (code v : ℕ) → codes ≤ code → degree (edges code) v ≤ 24
unfolding edges blocks_of flat_map
few_unknown code v h = rw (le-ltb code codes h) (omega arith)

pub few_edges : (code v : ℕ) → length (checks_of (edges code) v) ≤ 24
few_edges code v = go (dec_lt code codes)
  where
    go : Dec (code < codes) → degree (edges code) v ≤ 24
    go (yes h) = few_known code v h
    go (no h) = few_unknown code v (omega arith)

pub few_laid : (code m n v : ℕ) → length (checks_of (laid m n (runs code)) v) ≤ 24
unfolding laid
few_laid code m n v =
    let all : degree_in (runs code) v ≤ 24 = subst (λ (es : List Edge). degree es v ≤ 24) (sym (runs_flat code)) (few_edges code v) in
    omega (arith, kept_few (within m n) (runs code) v)
