-- The runs of a code, laid out edge by edge, are its edges, and they lie within its checks and bits. Assumes nothing.
--     runs_flat     flat_map run_edges (runs code) ≡ edges code
use Rattle.std.proofs.Common.{◌≡◌, ℕ, zero, suc, ◌+◌, ◌-◌, ◌*◌, ◌/◌, ◌%◌, ◌<◌, ◌≤◌, Bool, T, ltb, leb, List, [], ◌∷◌, ◌++◌, get_or, sym, ap, ◌∙◌, subst, ap₂, append-nil, add-zero, mod-lt, mod-eq_of_lt, suc-mul, mul_comm, add_comm, zero-add, arith, lt→ltb, leb→le, le-ltb, eq-eqb, ne_eqb}
use mathlib.Core.List.{flat_map}
use native.Mathlib.Nat.{mod-add-mod, mul-add-div_right, div-eq_of_lt, add-mul-mod_self_right, add-mod_left}
use native.Mathlib.Decide.{ℕ_discrete, dec_lt}
use Rattle.maths.specs.Tests.{all, below}
use Rattle.maths.specs.Lists.{span}
use Rattle.maths.proofs.Tests.{both_left, both_right, both_make, below_at, all_span, all_flat_map}
use Rattle.maths.proofs.Lists.{span_split, span_ext, flat_map_ext, flat_map_cons, flat_map_append, flat_map_flat_map}
use Rattle.codes.specs.declared.parity_iter.Place.{Place}
use Rattle.codes.specs.declared.parity_iter.Block.{Block}
use Rattle.codes.specs.declared.parity_iter.Block.TheVariants.{Ends, Empty, Identity, Permutation}
use Rattle.tables.specs.Tables.{prototypes, thetas, phis}
use Rattle.codes.specs.Codes.{codes, Known, rows, tables, bits_in, checks_in, Matrix, matrix_of, prototype_of}
use Rattle.codes.specs.Blocks.{block_of, block_at, cell_blocks, row_blocks, last_rows}
use Rattle.codes.specs.Edges.{Edge, edge, in_range, column_of, permutation_column, edge_at, block_edges, blocks_of, edges}
use Rattle.codes.specs.Walk.{solid}
use Rattle.runs.specs.declared.EdgeRun.{EdgeRun}
use Rattle.runs.specs.Runs.{run, run_edges, turned_runs, quarter, quarters, runs_at, block_runs, runs, within}
use Rattle.codes.proofs.Codes.{sized}

-- a run, and two runs
one_run : (r : EdgeRun) → flat_map run_edges (r ∷ []) ≡ run_edges r
unfolding flat_map
one_run r = append-nil (run_edges r)

two_runs : (r s : EdgeRun) → flat_map run_edges (r ∷ s ∷ []) ≡ run_edges r ++ run_edges s
two_runs r s = flat_map_cons run_edges r (s ∷ []) ∙ ap (λ (es : List Edge). run_edges r ++ es) (one_run s)

-- the edges of a turned identity
pub turned_edges : (a v turn size : ℕ) → turn < size
    → flat_map run_edges (turned_runs a v turn size) ≡ span (λ i. edge (a + i) (v + (turn + i) % size)) 0 size
unfolding turned_runs run_edges
turned_edges a v turn size h = go (ℕ_discrete turn 0)
  where
    f : ℕ → Edge
    f i = edge (a + i) (v + (turn + i) % size)

    go : Dec (turn ≡ 0) → flat_map run_edges (turned_runs a v turn size) ≡ span f 0 size
    go (yes e) =
        rw (eq-eqb turn 0 e) (one_run (run a v size) ∙ span_ext _ f 0 0 size (λ k l. rw (zero-add k, e, zero-add k, mod-eq_of_lt l)))
    go (no e) =
        let left = size - turn in
        let whole : left + turn ≡ size = omega arith in
        rw (ne_eqb turn 0 e)
        (two_runs (run a (v + turn) left) (run (a + left) v turn)
        ∙ ap₂ (λ (xs ys : List Edge). xs ++ ys)
        (span_ext _ f 0 0 left (λ k l. first k (omega arith)))
        (span_ext _ f 0 (0 + left) turn (λ k l. second k l))
        ∙ sym (span_split f 0 left turn) ∙ ap (span f 0) whole)
      where
        first : (k : ℕ) → k < size - turn → edge (a + (0 + k)) (v + turn + (0 + k)) ≡ f (0 + k)
        first k l =
            let m : turn + (0 + k) < size = omega arith in
            let e : v + turn + (0 + k) ≡ v + (turn + (0 + k)) = omega arith in
            rw (mod-eq_of_lt m, e)

        second : (k : ℕ) → k < turn → edge (a + (size - turn) + (0 + k)) (v + (0 + k)) ≡ f (0 + (size - turn) + k)
        second k l =
            let x : turn + (0 + (size - turn) + k) ≡ size + k = omega arith in
            let y : a + (size - turn) + (0 + k) ≡ a + (0 + (size - turn) + k) = omega arith in
            let m : k < size = omega arith in
            rw (x, add-mod_left size k, mod-eq_of_lt m, y, zero-add k)

-- an identity block
identity_edges : (m a v value : ℕ) → zero < m
    → flat_map run_edges (turned_runs a v (value % m) m) ≡ span (λ i. edge (a + i) (v + (i + value) % m)) 0 m
identity_edges m a v value pos =
    turned_edges a v (value % m) m (mod-lt value pos)
    ∙ span_ext _ _ 0 0 m (λ k l. rw (mod-add-mod value m (0 + k), add_comm value (0 + k)))

-- the quarters of a permutation block
module _ (x : Matrix) (a v value : ℕ) (pos : zero < x.size / 4) where
  abbrev entry : ℕ → Edge
  entry i = edge (a + i) (v + permutation_column x value i)

  quarter_entry : (j k : ℕ) → k < x.size / 4
      → edge (a + j * (x.size / 4) + k) (v + (get_or x.theta value 0 + j) % 4 * (x.size / 4) + (get_or (get_or x.phi j []) value 0 % (x.size / 4) + k) % (x.size / 4))
      ≡ entry (j * (x.size / 4) + k)
  quarter_entry j k l =
      let q = x.size / 4 in
      let s = get_or (get_or x.phi j []) value 0 in
      let z = (get_or x.theta value 0 + j) % 4 in
      let d : (j * q + k) / q ≡ j = mul-add-div_right pos j k ∙ rw (div-eq_of_lt l, add-zero) in
      let w : s + (j * q + k) ≡ s + k + j * q = omega arith in
      let r : (s + k + j * q) % q ≡ (s + k) % q = add-mul-mod_self_right (s + k) j q in
      rw (d, w, r, mod-add-mod s q k, mul_comm q z)
      (ap₂ edge (let e : a + j * q + k ≡ a + (j * q + k) = omega arith in e) (let e : v + z * q + (s + k) % q ≡ v + (z * q + (s + k) % q) = omega arith in e))

  quarters_edges : (j : ℕ) → flat_map run_edges (quarters x.size x.theta x.phi value a v j) ≡ span entry 0 (j * (x.size / 4))
  unfolding quarters quarter flat_map span
  quarters_edges zero = rw (let e : 0 * (x.size / 4) ≡ 0 = omega arith in e)
  quarters_edges (suc j) =
      let q = x.size / 4 in
      let e : suc j * q ≡ j * q + q = suc-mul j q in
      flat_map_append run_edges (quarters x.size x.theta x.phi value a v j) _
      ∙ ap₂ (λ (xs ys : List Edge). xs ++ ys) (quarters_edges j)
      (turned_edges _ _ _ q (mod-lt _ pos) ∙ span_ext _ entry 0 (0 + j * q) q (λ k l. rw (zero-add k, zero-add (j * q)) (quarter_entry j k l)))
      ∙ sym (span_split entry 0 (j * q) q) ∙ rw e

-- the edges of a block
block_flat : (x : Matrix) (k : Block) (a v : ℕ) → zero < x.size → x.size % 4 ≡ 0 → T (solid k)
    → flat_map run_edges (runs_at x.size x.theta x.phi k a v) ≡ span (λ i. edge (a + i) (v + column_of x k i)) 0 x.size
block_flat x Ends a v pos four s = absurd s
block_flat x Empty a v pos four s = absurd s
block_flat x (Identity value) a v pos four s = identity_edges x.size a v value pos
block_flat x (Permutation value) a v pos four s =
    let e : 4 * (x.size / 4) ≡ x.size = omega arith in
    quarters_edges x a v value (omega arith) 4 ∙ ap (span _ 0) e

-- every block that is listed has edges
solid_test : ℕ → Place → Bool
solid_test code p = solid (block_at (prototype_of code) p)

all_solid : T (below codes (λ code. all (solid_test code) (blocks_of code)))
unfolding solid_test tables prototypes blocks_of last_rows row_blocks cell_blocks block_of
all_solid = tt

flat_known : (code : ℕ) → Known code → flat_map run_edges (runs code) ≡ edges code
unfolding runs edges block_runs block_edges edge_at solid_test
flat_known code h =
    let x = matrix_of code in
    let z = sized code h in
    flat_map_flat_map run_edges (block_runs x) (blocks_of code)
    ∙ flat_map_ext (solid_test code) (λ p. flat_map run_edges (block_runs x p)) (block_edges x) (blocks_of code)
    (below_at codes (λ k. all (solid_test k) (blocks_of k)) all_solid code h)
    (λ p s. block_flat x (block_at (prototype_of code) p) (p.row * x.size) (p.col * x.size) (omega (arith, z.low)) z.four s)

flat_unknown : (code : ℕ) → codes ≤ code → flat_map run_edges (runs code) ≡ edges code
unfolding runs edges blocks_of flat_map
flat_unknown code h = rw (le-ltb code codes h)

pub runs_flat : (code : ℕ) → flat_map run_edges (runs code) ≡ edges code
runs_flat code = go (dec_lt code codes)
  where
    go : Dec (code < codes) → flat_map run_edges (runs code) ≡ edges code
    go (yes h) = flat_known code h
    go (no h) = flat_unknown code (omega arith)

-- every run lies within the checks and bits of its code
all_within : T (below codes (λ code. all (within (checks_in code) (bits_in code)) (runs code)))
unfolding rows tables prototypes thetas phis block_of cell_blocks row_blocks last_rows flat_map blocks_of runs block_runs turned_runs quarters quarter
all_within = tt

pub runs_within : (code : ℕ) → Known code → T (all (within (checks_in code) (bits_in code)) (runs code))
runs_within = below_at codes (λ code. all (within (checks_in code) (bits_in code)) (runs code)) all_within

-- the edges of a run that lies within are in range
pub run_ranged : (m n : ℕ) (r : EdgeRun) → T (within m n r) → T (all (in_range m n) (run_edges r))
unfolding run_edges
run_ranged m n r t =
    let a = leb→le (r.check.0 + r.size) m (both_left (leb (r.check.0 + r.size) m) (leb (r.bit.0 + r.size) n) t) in
    let b = leb→le (r.bit.0 + r.size) n (both_right (leb (r.check.0 + r.size) m) (leb (r.bit.0 + r.size) n) t) in
    all_span (in_range m n) _ 0 r.size (λ k l. both_make (ltb (r.check.0 + (0 + k)) m) (ltb (r.bit.0 + (0 + k)) n) (lt→ltb _ m (omega arith)) (lt→ltb _ n (omega arith)))

-- "every index is in range"
pub edges_ranged : (code : ℕ) → Known code → T (all (in_range (checks_in code) (bits_in code)) (edges code))
edges_ranged code h =
    subst (λ (es : List Edge). T (all (in_range (checks_in code) (bits_in code)) es)) (runs_flat code)
    (all_flat_map (within (checks_in code) (bits_in code)) (in_range (checks_in code) (bits_in code)) run_edges (runs code) (runs_within code h) (run_ranged (checks_in code) (bits_in code)))
