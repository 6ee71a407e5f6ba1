-- The search, one cell after another from the highest down.
use Rattle.std.proofs.Common.{◌≡◌, ℕ, ◌+◌, ◌-◌, ◌<◌, ◌≤◌, Bool, true, false, cond, not, ◌&&◌, ltb, ◌≢◌, List, length, set, is_some, vec_items, sym, refl, ap, ◌∙◌, subst, add-one, arith}
use mathlib.Core.Path.{fun_ext}
use Rattle.std.proofs.Math.Bool.{and-not_self}
use Rattle.std.proofs.lemmas.Bool.{or_left, lt-ltb}
use Rattle.layouts.specs.Blank.{is_open_mark}
use Rattle.layouts.specs.declared.memory.Cover.{Cover}
use Rattle.layouts.specs.declared.memory.Cover.TheVariants.{Shown, Withheld}
use Rattle.layouts.specs.declared.memory.Row.{Row}
use Rattle.layouts.specs.declared.memory.Mark.TheVariants.{Open, Complement}
use Rattle.sums.specs.Sums.{count_below}
use Rattle.sums.proofs.SumBelow.{sum_but, sum_none, count_le}
use Rattle.readings.specs.Exposure.{Figures, audit}
use Rattle.readings.specs.Paths.{withheld_by}
use Rattle.readings.specs.Rows.{needs}
use Rattle.readings.specs.Tables.{CoverNeeds}
use Rattle.intake.specs.Marks.{mark_at}
use Rattle.runs.specs.Acts.{Standing, withheld, newly, opened, reopen, searched, seek, count}
use Rattle.sheet.specs.declared.held.Sheet.{Sheet}
use Rattle.sheet.specs.declared.events.Event.TheVariants.{Added}
use Rattle.sheet.specs.Events.{next_mark}
use Rattle.sheet.specs.Standing.{is_complement_mark, standing_of}
use Rattle.sheet.specs.Sheets.{rows_of, figures_of, stands, Acted}
use Rattle.sheet.specs.Trying.{covers_of, SameTable, Tried}
use Rattle.sheet.proofs.Facts.{rows_long, covers_long, cells_few, tied_at, same_figures_by, same_table_figures}
use Rattle.sheet.proofs.Halfway.{half, open_needless, new_open, half_closed, half_none, covers_half, half_old, half_opened, half_added, covers_opened, covers_back}
use Rattle.sheet.proofs.Marking.{met_figures, met_needs, met_there, met_elsewhere}

-- ONE CELL THAT IS TRIED
pub tried_hidden : (s t : Sheet) (k : ℕ) → SameTable s t → vec_items t.bench.covers ≡ set (vec_items s.bench.covers) k Shown
    → CoverNeeds (figures_of s) (set (vec_items s.bench.covers) k Shown) → CoverNeeds (figures_of t) (vec_items t.bench.covers)
tried_hidden s t k same cover h =
    subst (CoverNeeds (figures_of t)) (sym cover) (subst (λ (F : Figures). CoverNeeds F (set (vec_items s.bench.covers) k Shown)) (sym (same_table_figures s t same)) h)

-- THE WAY DOWN
-- The cells from i on are decided, and n of them were added.
pub record Searching (before : Sheet) (i n : ℕ) (now : Sheet) : Type 0 where
  pub same_network : now.network ≡ before.network
  pub same_figures : figures_of now ≡ figures_of before
  pub inside : i ≤ (figures_of before).shape.cells
  pub untried : (c : ℕ) → c < i → mark_at (rows_of now) c ≡ mark_at (rows_of before) c
  pub covers : (c : ℕ) → withheld_by (vec_items now.bench.covers) c ≡ withheld (figures_of before) (half i (rows_of now)) c
  pub leads : reopen (figures_of before) (newly (figures_of before) (stands before)) i (half i (rows_of now)) ≡ searched (figures_of before) (stands before)
  pub counts : n ≡ count_below (figures_of before).shape.cells (λ c. (stands now).complement c && not ((stands before).complement c))

no_more : (b : Bool) → (b && not b) ≡ false
no_more true = refl
no_more false = refl

pub search_none : (s : Sheet) (i : ℕ) → i ≡ (figures_of s).shape.cells → vec_items s.bench.covers ≡ covers_of Withheld (rows_of s) → Searching s i 0 s
search_none s i top is = subst (λ j. Searching s j 0 s) (sym top) record {
  same_network = refl;
  same_figures = refl;
  inside = omega arith;
  untried = λ c l. refl;
  covers = λ c.
      ap (λ (xs : List Cover). withheld_by xs c) is
      ∙ covers_half s Withheld (figures_of s).shape.cells (omega arith) (λ x l. sym (lt-ltb x (figures_of s).shape.cells l)) c;
  leads = ap (reopen (figures_of s) (newly (figures_of s) (stands s)) (figures_of s).shape.cells) (half_closed s);
  counts = sym (sum_none (figures_of s).shape.cells _ (λ c l. ap (λ b. cond b 1 0) (and-not_self ((stands s).complement c))));
}

pub few_added : {before now : Sheet} {i n : ℕ} → Searching before i n now → n ≤ 512
few_added {before = before} {now = now} h =
    omega (arith, h.counts, cells_few before, count_le (figures_of before).shape.cells (λ c. (stands now).complement c && not ((stands before).complement c)))

-- the cell before i
pub down_one : {before now : Sheet} {i n : ℕ} → 0 < i → Searching before i n now → Searching before ((i - 1) + 1) n now
down_one {before = before} {now = now} {i = i} {n = n} l h = let same : i ≡ (i - 1) + 1 = omega arith in subst (λ j. Searching before j n now) same h

-- one turn of the recursion
turn_by : (F : Figures) (new : ℕ → Bool) (k : ℕ) (st : Standing) (a b : Bool) → new k ≡ a → is_some (audit F (withheld F (opened k st))) ≡ b
    → reopen F new (k + 1) st ≡ reopen F new k (cond (a && not b) (opened k st) st)
turn_by F new k st a b e f =
    ap (λ m. reopen F new m st) (add-one k)
    ∙ ap (λ x. reopen F new k (cond (x && not (is_some (audit F (withheld F (opened k st))))) (opened k st) st)) e
    ∙ ap (λ x. reopen F new k (cond (a && not x) (opened k st) st)) f

module _ {before now : Sheet} (k : ℕ) {n : ℕ} (so_far : Searching before (k + 1) n now) where
  abbrev F : Figures
  F = figures_of before

  abbrev new : ℕ → Bool
  new = newly (figures_of before) (stands before)

  abbrev st : Standing
  st = half (k + 1) (rows_of now)

  same_cells : (figures_of now).shape.cells ≡ F.shape.cells
  same_cells = ap (λ (G : Figures). G.shape.cells) so_far.same_figures

  in_cells : k < F.shape.cells
  in_cells = omega (arith, so_far.inside)

  pub in_now : k < (figures_of now).shape.cells
  in_now = omega (arith, so_far.inside, same_cells)

  in_rows : k < length (rows_of now)
  in_rows = omega (arith, in_now, rows_long now)

  in_covers : k < length (vec_items now.bench.covers)
  in_covers = omega (arith, in_now, covers_long now)

  new_is : (b : Bool) → is_open_mark (mark_at (rows_of now) k) ≡ b → new k ≡ b
  new_is b e =
      new_open before k
      ∙ ap (λ x. x && is_open_mark (mark_at (rows_of before) k)) (lt-ltb k F.shape.cells in_cells)
      ∙ ap is_open_mark (sym (so_far.untried k (omega arith)))
      ∙ e

  -- the cell is not open, and stays
  pub step_old : is_open_mark (mark_at (rows_of now) k) ≡ false → Searching before k n now
  step_old e = record {
    same_network = so_far.same_network;
    same_figures = so_far.same_figures;
    inside = omega (arith, so_far.inside);
    untried = λ c l. so_far.untried c (omega arith);
    covers = λ c. so_far.covers c ∙ ap (λ (x : Standing). withheld F x c) (half_old (rows_of now) k e);
    leads =
        ap (reopen F new k) (sym (half_old (rows_of now) k e))
        ∙ sym (turn_by F new k st false (is_some (audit F (withheld F (opened k st)))) (new_is false e) refl)
        ∙ so_far.leads;
    counts = so_far.counts;
  }

  module _ (e : mark_at (rows_of now) k ≡ Open) where
    needless : ltb 0 (F.need k) ≡ false
    needless =
        ap (λ (G : Figures). ltb 0 (G.need k)) (sym so_far.same_figures)
        ∙ open_needless (needs (rows_of now) k) (mark_at (rows_of now) k) (tied_at now k in_now) (ap is_open_mark e)

    covers_shown : (c : ℕ) → withheld_by (set (vec_items now.bench.covers) k Shown) c ≡ withheld F (half k (rows_of now)) c
    covers_shown = covers_opened F (rows_of now) (vec_items now.bench.covers) k in_covers e so_far.covers needless

    -- an open cell may be shown
    pub open_hidden : CoverNeeds (figures_of now) (set (vec_items now.bench.covers) k Shown)
    open_hidden c l h =
        covers_shown c ∙ or_left (ltb 0 (F.need c)) _ (ap (λ (G : Figures). ltb 0 (G.need c)) (sym so_far.same_figures) ∙ lt-ltb 0 (needs (rows_of now) c) h)

    audits : (b : Bool) → b ≡ is_some (audit (figures_of now) (withheld_by (set (vec_items now.bench.covers) k Shown))) → is_some (audit F (withheld F (opened k st))) ≡ b
    audits b f = sym (f
        ∙ ap (λ (G : Figures). is_some (audit G (withheld_by (set (vec_items now.bench.covers) k Shown)))) so_far.same_figures
        ∙ ap (λ (w : ℕ → Bool). is_some (audit F w)) (fun_ext covers_shown)
        ∙ ap (λ (x : Standing). is_some (audit F (withheld F x))) (sym (half_opened (rows_of now) k e)))

    -- nobody is exposed, and the cell is open again
    pub step_opened : (after : Sheet) → Tried now k false after → Searching before k n after
    step_opened after t = record {
      same_network = t.same_network ∙ so_far.same_network;
      same_figures = same_table_figures now after (record { same_network = t.same_network; same_rows = t.rows }) ∙ so_far.same_figures;
      inside = omega (arith, so_far.inside);
      untried = λ c l. ap (λ (rows : List Row). mark_at rows c) t.rows ∙ so_far.untried c (omega arith);
      covers = λ c.
          ap (λ (xs : List Cover). withheld_by xs c) t.covers ∙ covers_shown c
          ∙ ap (λ (rows : List Row). withheld F (half k rows) c) (sym t.rows);
      leads =
          ap (λ (rows : List Row). reopen F new k (half k rows)) t.rows
          ∙ ap (reopen F new k) (sym (half_opened (rows_of now) k e))
          ∙ sym (turn_by F new k st true false (new_is true (ap is_open_mark e)) (audits false t.finds))
          ∙ so_far.leads;
      counts =
          so_far.counts
          ∙ ap (λ (rows : List Row). count_below F.shape.cells (λ c. (standing_of rows).complement c && not ((stands before).complement c))) (sym t.rows);
    }

    -- somebody is exposed, and the cell is a complement
    module _ (after : Sheet) (t : Tried now k true after) where
      there : mark_at (rows_of after) k ≡ Complement
      there = met_there (rows_of now) (rows_of after) k Added t.rows in_rows ∙ ap (λ m. next_mark m Added) e

      elsewhere : (c : ℕ) → c ≢ k → mark_at (rows_of after) c ≡ mark_at (rows_of now) c
      elsewhere = met_elsewhere (rows_of now) (rows_of after) k Added t.rows

      abbrev gains : Sheet → ℕ → Bool
      gains s c = (stands s).complement c && not ((stands before).complement c)

      one_more : n + 1 ≡ count_below F.shape.cells (gains after)
      one_more =
          let was : mark_at (rows_of before) k ≡ Open = sym (so_far.untried k (omega arith)) ∙ e in
          let new_one : ◌≡◌ {A = ℕ} (cond (gains after k) 1 0) 1 =
          ap (λ m. cond (is_complement_mark m && not ((stands before).complement k)) 1 0) there ∙ ap (λ m. cond (not (is_complement_mark m)) 1 0) was in
          let old_one : ◌≡◌ {A = ℕ} (cond (gains now k) 1 0) 0 = ap (λ m. cond (is_complement_mark m && not ((stands before).complement k)) 1 0) e in
          omega (
            arith,
            new_one,
            old_one,
            so_far.counts,
            sum_but F.shape.cells k (λ c. cond (gains after c) 1 0) (λ c. cond (gains now c) 1 0) in_cells
                (λ c l ne. ap (λ m. cond (is_complement_mark m && not ((stands before).complement c)) 1 0) (elsewhere c ne)),
          )

      pub step_added : Searching before k (n + 1) after
      step_added = record {
        same_network = t.same_network ∙ so_far.same_network;
        same_figures =
            same_figures_by now after t.same_network
            (met_figures (rows_of now) (rows_of after) k Added t.rows) (met_needs (rows_of now) (rows_of after) k Added t.rows)
            ∙ so_far.same_figures;
        inside = omega (arith, so_far.inside);
        untried = λ c l. elsewhere c (below_other c l) ∙ so_far.untried c (omega arith);
        covers = λ c.
            ap (λ (xs : List Cover). withheld_by xs c) t.covers
            ∙ covers_back F (rows_of now) (vec_items now.bench.covers) k in_covers e so_far.covers c
            ∙ ap (λ (x : Standing). withheld F x c) (half_added (rows_of now) k (rows_of after) in_rows e t.rows);
        leads =
            ap (reopen F new k) (sym (half_added (rows_of now) k (rows_of after) in_rows e t.rows))
            ∙ sym (turn_by F new k st true true (new_is true (ap is_open_mark e)) (audits true t.finds))
            ∙ so_far.leads;
        counts = one_more;
      }
        where
          below_other : (c : ℕ) → c < k → c ≢ k
          below_other c l = omega arith

-- AT THE END
pub search_acted : {s after : Sheet} {n : ℕ} → Searching s 0 n after → Acted s seek (count n) after
search_acted {s = s} {after = after} h = record {
  does = record {
    right = ap count (h.counts ∙ ap (λ (x : Standing). count_below (figures_of s).shape.cells (λ c. x.complement c && not ((stands s).complement c))) stood);
    leaves = stood;
  };
  same_network = h.same_network;
  same_figures = h.same_figures;
  same_rows = λ r f. cc;
}
  where
    stood : stands after ≡ searched (figures_of s) (stands s)
    stood = sym (half_none (rows_of after)) ∙ h.leads
