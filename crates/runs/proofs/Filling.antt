-- Filling the list of runs, block by block in the order of the walk. Assumes nothing.
use Rattle.std.proofs.Common.{◌≡◌, ℕ, ◌+◌, ◌<◌, ◌≤◌, List, [], ◌++◌, length, refl, ap, ◌∙◌, append_assoc, append-nil, le_refl, arith, length-append, lt-ltb}
use mathlib.Core.List.{flat_map}
use Rattle.maths.proofs.Lists.{flat_map_cons, flat_map_nil}
use Rattle.codes.specs.declared.parity_iter.Place.{Place}
use Rattle.std.specs.Prelude.{Option, Some, None}
use Rattle.codes.specs.Codes.{Matrix}
use Rattle.codes.specs.Blocks.{blocks, blocks_from, head_of, rest_of, next_block}
use Rattle.runs.specs.declared.EdgeRun.{EdgeRun}
use Rattle.runs.specs.Runs.{block_runs}
use Rattle.runs.specs.Sound.{PlaceFits, RunsFit}
use Rattle.codes.proofs.Walk.{product_low}
use Rattle.codes.proofs.Remaining.{Lies, Headed, none, some, headed_all, headed_from}

-- a block that was found has edges
abbrev pub LiesAt : List (List (List ℕ)) → Option Place → Type 0
LiesAt H (Some p) = Lies H p
LiesAt H None = Unit

-- the runs listed and those of the blocks from the found one on are all
pub record Going (x : Matrix) (l : List EdgeRun) (f : Option Place) : Type 0 where
  pub whole : l ++ flat_map (block_runs x) (rest_of x.prototype f) ≡ flat_map (block_runs x) (blocks x.prototype)
  pub lies : LiesAt x.prototype f

module _ (H : List (List (List ℕ))) where
  -- the first of a list of blocks, as a found one
  pub record First (f : Option Place) (ps : List Place) : Type 0 where
    pub rest : rest_of H f ≡ ps
    pub lies : LiesAt H f

  first_of : (ps : List Place) → Headed H ps → First (head_of ps) ps
  first_of ps (none e) = rw e (record { rest = refl; lies = tt })
  first_of ps (some p d e) = rw e (record { rest = refl; lies = d })

  first_all : (f : Option Place) → f ≡ head_of (blocks H) → First f (blocks H)
  first_all f e = rw e (first_of (blocks H) (headed_all H))

  first_after : (p : Place) (f : Option Place) → Lies H p → f ≡ next_block H p → First f (blocks_from H p.row p.col (p.layer + 1))
  first_after p f d e =
      rw (e, lt-ltb _ _ d.row_low, lt-ltb _ _ d.col_low, lt-ltb _ _ d.layer_low) (first_of _ (headed_from H _ _ _ d.row_low d.col_low))

module _ (x : Matrix) where
  pub going_first : (f : Option Place) → f ≡ head_of (blocks x.prototype) → Going x [] f
  going_first f e =
      let d = first_all x.prototype f e in
      record { whole = ap (flat_map (block_runs x)) d.rest; lies = d.lies }

  module _ (l : List EdgeRun) (f : Option Place) where
    pub going_end : Going x l f → f ≡ None → l ≡ flat_map (block_runs x) (blocks x.prototype)
    going_end g e = rw (e, flat_map_nil (block_runs x), append-nil l) at g.whole

    module _ (p : Place) (e : f ≡ Some p) (g : Going x l f) where
      pub going_next : (l' : List EdgeRun) (f' : Option Place) → l' ≡ l ++ block_runs x p → f' ≡ next_block x.prototype p → Going x l' f'
      going_next l' f' el e' =
          let d = first_after x.prototype p f' (rw e at g.lies) e' in
          let w = rw e at g.whole in
          record {
            whole = rw el (append_assoc l (block_runs x p) _ ∙ rw (d.rest, ← flat_map_cons (block_runs x) p (blocks_from x.prototype p.row p.col (p.layer + 1))) w);
            lies = d.lies;
          }

      -- there is room for the runs of the block that was found
      pub going_fits : RunsFit x → PlaceFits x (length l) p
      going_fits h =
          let d = rw e at g.lies in
          let n : length l ≤ length (flat_map (block_runs x) (blocks x.prototype)) =
          rw (← g.whole) (rw (length-append l (flat_map (block_runs x) (rest_of x.prototype f))) (omega arith)) in
          let high = h.sized.high in
          record {
            row_low = d.row_low;
            col_low = d.col_low;
            layer_low = d.layer_low;
            fits = record {
              sized = h.sized;
              free = omega (arith, h.few);
              check_low = omega (arith, product_low p.row x.size (omega (arith, d.row_low)) high);
              bit_low = omega (arith, product_low p.col x.size d.col_low high);
              small = h.small _ _ _;
            };
          }

      pub going_less : (f' : Option Place) → f' ≡ next_block x.prototype p → length (rest_of x.prototype f') < length (rest_of x.prototype f)
      going_less f' e' =
          let d = first_after x.prototype p f' (rw e at g.lies) e' in
          rw (e, d.rest) (le_refl _)
