-- One row gets another mark: what stays, and what holds of the marks then.
use Rattle.std.proofs.Common.{◌≡◌, ℕ, zero, suc, ◌<◌, ◌≤◌, Bool, true, cond, ◌≢◌, List, filter, map, take, length, get_or, set, sym, refl, ap, ◌∙◌, subst, inl, inr, arith, add-one}
use Rattle.std.proofs.lemmas.List.Filters.{length-filter_more}
use Rattle.sums.specs.Sums.{count_below}
use lib.ListN.{get_or-map}
use Rattle.std.proofs.lemmas.List.{take_all, map-set, set-get_or, get_or-set_same, get_or-set_other}
use Rattle.std.proofs.lemmas.Bool.{le-leb, and_from, cases_eq}
use Rattle.layouts.specs.Blank.{blank}
use Rattle.layouts.specs.declared.memory.Row.{Row}
use Rattle.layouts.specs.declared.memory.Mark.{Mark}
use Rattle.layouts.specs.declared.memory.Mark.TheVariants.{Open, Sensitive, Complement, Printed, Barred}
use Rattle.readings.specs.Rows.{figures, needs}
use Rattle.intake.specs.Marks.{mark_at}
use Rattle.sheet.specs.declared.events.Event.{Event}
use Rattle.sheet.specs.declared.events.Event.TheVariants.{Listed, Unlisted, Added, PagePrinted}
use Rattle.sheet.specs.Cells.{goes_with, is_cell, row_at}
use Rattle.sheet.specs.Events.{next_mark, met}

-- A ROW AND ITS PARTS
pub figure_at : (rows : List Row) (c : ℕ) → figures rows c ≡ (row_at rows c).figure
figure_at rows c = get_or-map (λ (r : Row). r.figure) rows c blank

pub need_at : (rows : List Row) (c : ℕ) → needs rows c ≡ (row_at rows c).need
need_at rows c = get_or-map (λ (r : Row). r.need) rows c blank

pub mark_of : (rows : List Row) (c : ℕ) → mark_at rows c ≡ (row_at rows c).mark
mark_of rows c = get_or-map (λ (r : Row). r.mark) rows c blank

-- the mark of the row that was read
pub mark_read : (rows : List Row) (c : ℕ) (r : Row) → r ≡ row_at rows c → mark_at rows c ≡ r.mark
mark_read rows c r is = mark_of rows c ∙ ap (λ (x : Row). x.mark) (sym is)

-- the rows whose marks pass a test are as many as the cells below their number whose marks pass it
pub marks_counted : (test : Mark → Bool) (rows : List Row) (n : ℕ) → length rows ≡ n → length (filter (λ (r : Row). test r.mark) rows) ≡ count_below n (λ c. test (mark_at rows c))
marks_counted test rows n all = ap (λ (xs : List Row). length (filter (λ (r : Row). test r.mark) xs)) (sym (take_all n rows (omega (arith, all)))) ∙ front n (omega (arith, all))
  where
    front : (i : ℕ) → i ≤ length rows → length (filter (λ (r : Row). test r.mark) (take i rows)) ≡ count_below i (λ c. test (mark_at rows c))
    front zero h = refl
    front (suc i) h =
        let more = length-filter_more (λ (r : Row). test r.mark) rows i blank (omega arith) in
        omega (arith, more, front i (omega arith), ap {B = ℕ} (λ m. cond (test m) 1 0) (mark_of rows i), ap (λ j. length (filter (λ (r : Row). test r.mark) (take j rows))) (add-one i))

-- a row of a sheet is the record of a cell
pub cell_at : (rows : List Row) (c : ℕ) → needs rows c ≤ figures rows c → goes_with (needs rows c) (mark_at rows c) ≡ true → is_cell (row_at rows c) ≡ true
cell_at rows c within tied =
    and_from _ _
    (le-leb _ _ (subst (λ n. n ≤ (row_at rows c).figure) (need_at rows c) (subst (λ n. needs rows c ≤ n) (figure_at rows c) within)))
    (subst (λ m. goes_with (row_at rows c).need m ≡ true) (mark_of rows c) (subst (λ n. goes_with n (mark_at rows c) ≡ true) (need_at rows c) tied))

-- a need that goes with a mark goes with the next one
pub next_goes : (need : ℕ) (m : Mark) (e : Event) → goes_with need m ≡ true → goes_with need (next_mark m e) ≡ true
next_goes need Open Listed h = h
next_goes need Open Unlisted h = h
next_goes need Open Added h = h
next_goes need Open PagePrinted h = h
next_goes need Sensitive e h = h
next_goes need Complement Listed h = h
next_goes need Complement Unlisted h = h
next_goes need Complement Added h = h
next_goes need Complement PagePrinted h = h
next_goes need Printed e h = h
next_goes need Barred e h = h

-- ONE ROW THAT MET AN EVENT
module _ (rows after : List Row) (k : ℕ) (e : Event) (is : after ≡ set rows k (met (row_at rows k) e)) where
  -- a part that an event leaves
  part_kept : (f : Row → ℕ) → ((r : Row) → f (met r e) ≡ f r) → map f after ≡ map f rows
  part_kept f same =
      ap (map f) is
      ∙ map-set f rows k (met (row_at rows k) e)
      ∙ ap (set (map f rows) k) (same (row_at rows k) ∙ sym (get_or-map f rows k blank))
      ∙ set-get_or (map f rows) k (f blank)

  pub met_figures : (c : ℕ) → figures after c ≡ figures rows c
  met_figures c = ap (λ xs. get_or xs c 0) (part_kept (λ (r : Row). r.figure) (λ r. refl))

  pub met_needs : (c : ℕ) → needs after c ≡ needs rows c
  met_needs c = ap (λ xs. get_or xs c 0) (part_kept (λ (r : Row). r.need) (λ r. refl))

  pub met_there : k < length rows → mark_at after k ≡ next_mark (mark_at rows k) e
  met_there l = mark_of after k ∙ ap (λ (r : Row). r.mark) (ap (λ xs. row_at xs k) is ∙ get_or-set_same rows k _ blank l) ∙ ap (λ m. next_mark m e) (sym (mark_of rows k))

  pub met_elsewhere : (c : ℕ) → c ≢ k → mark_at after c ≡ mark_at rows c
  met_elsewhere c ne = mark_of after c ∙ ap (λ (r : Row). r.mark) (ap (λ xs. row_at xs c) is ∙ get_or-set_other rows k c _ blank ne) ∙ sym (mark_of rows c)

  pub met_goes : k < length rows → (c : ℕ) → goes_with (needs rows c) (mark_at rows c) ≡ true → goes_with (needs after c) (mark_at after c) ≡ true
  met_goes l c h = elim (cases_eq c k) [
    | inl same ↦ rw (met_needs c, same, met_there l) (next_goes (needs rows k) (mark_at rows k) e (rw same at h))
    | inr ne ↦ rw (met_needs c, met_elsewhere c ne) h
  ]
