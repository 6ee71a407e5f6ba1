-- The page of a sheet, and how the sheet stands once it is out.
use Rattle.std.proofs.Common.{◌≡◌, ℕ, ◌*◌, ◌^◌, ◌<◌, ◌≤◌, Bool, true, false, cond, not, ◌||◌, ltb, List, ◌++◌, length, take, drop, Some, None, Option, sym, refl, ap, ◌∙◌, inl, inr, arith}
use Rattle.std.proofs.lemmas.List.{take_at}
use Rattle.std.proofs.lemmas.Bool.{cases_lt, lt-ltb, le-ltb, not-true, false≢true}
use Rattle.refusals.specs.declared.Refusal.{Refusal}
use Rattle.layouts.specs.declared.memory.Mark.{Mark}
use Rattle.layouts.specs.declared.memory.Mark.TheVariants.{Open, Sensitive, Complement, Printed, Barred}
use Rattle.page.specs.Page.{fits}
use Rattle.page.specs.Laws.{Printable}
use Rattle.page.proofs.Pages.{length_page}
use Rattle.readings.specs.Exposure.{Figures}
use Rattle.readings.specs.Rows.{figures, needs}
use Rattle.intake.specs.Marks.{mark_at}
use Rattle.runs.specs.Acts.{Standing, bare, shown, page_of, print, refusal, accepted, page, unless}
use Rattle.sheet.specs.declared.held.Sheet.{Sheet}
use Rattle.sheet.specs.declared.events.Event.TheVariants.{PagePrinted}
use Rattle.sheet.specs.Calls.{shown_by}
use Rattle.sheet.specs.Cells.{goes_with, row_at}
use Rattle.sheet.specs.Events.{next_mark}
use Rattle.sheet.specs.Standing.{is_complement_mark, is_printed_mark, standing_of}
use Rattle.sheet.specs.Sheets.{rows_of, figures_of, stands, Acted}
use Rattle.sheet.specs.Trying.{SameTable}
use Rattle.sheet.proofs.Facts.{cells_few, tied_at, small_at, same_table_figures}
use Rattle.sheet.proofs.Meetings.{MetEach}
use Rattle.sheet.proofs.Marking.{figure_at, mark_of}

-- WHAT IS SHOWN
shown_mark : (need figure : ℕ) (m : Mark) → goes_with need m ≡ true → shown_by m figure ≡ cond (not (ltb 0 need || is_complement_mark m)) (Some figure) None
shown_mark need figure Open g = let e = not-true (ltb 0 need) g in rw e
shown_mark need figure Sensitive g = rw g
shown_mark need figure Complement g = let e = not-true (ltb 0 need) g in rw e
shown_mark need figure Printed g = let e = not-true (ltb 0 need) g in rw e
shown_mark need figure Barred g = absurd (false≢true g)

pub shown_at : (s : Sheet) (c : ℕ) → c < (figures_of s).shape.cells → shown_by (mark_at (rows_of s) c) (figures (rows_of s) c) ≡ shown (figures_of s) (stands s) c
shown_at s c l =
    rw (lt-ltb c (figures_of s).shape.cells l) (shown_mark (needs (rows_of s) c) (figures (rows_of s) c) (mark_at (rows_of s) c) (tied_at s c l))

-- what a page shows of the row of a cell
pub row_shown : (s : Sheet) (c : ℕ) → c < (figures_of s).shape.cells → let r = row_at (rows_of s) c in shown_by r.mark r.figure ≡ shown (figures_of s) (stands s) c
row_shown s c l =
    rw (← mark_of (rows_of s) c, ← figure_at (rows_of s) c) (shown_at s c l)

pub sheet_printable : (s : Sheet) → Printable (figures_of s).shape.cells (shown (figures_of s) (stands s))
sheet_printable s = record {
  few = omega (arith, cells_few s);
  fit = λ c l. fit (bare (figures_of s) (stands s) c) (figures (rows_of s) c) (small_at s c l);
}
  where
    fit : (b : Bool) (v : ℕ) → v ≤ 2048000000000 → fits (cond b (Some v) None) ≡ true
    fit true v h = lt-ltb v (10 ^ 13) (omega arith)
    fit false v h = refl

-- HOW IT STANDS THEN
printed_mark : (need : ℕ) (m : Mark) → goes_with need m ≡ true → is_printed_mark (next_mark m PagePrinted) ≡ (is_printed_mark m || not (ltb 0 need || is_complement_mark m))
printed_mark need Open g = let e = not-true (ltb 0 need) g in rw e
printed_mark need Sensitive g = rw g
printed_mark need Complement g = let e = not-true (ltb 0 need) g in rw e
printed_mark need Printed g = refl
printed_mark need Barred g = absurd (false≢true g)

page_complement : (m : Mark) → is_complement_mark (next_mark m PagePrinted) ≡ is_complement_mark m
page_complement Open = refl
page_complement Sensitive = refl
page_complement Complement = refl
page_complement Printed = refl
page_complement Barred = refl

module _ (before after : Sheet) (memory : ℕ) (met : MetEach before (λ _. PagePrinted) after) where
  printed_at : (c : ℕ) → is_printed_mark (mark_at (rows_of after) c) ≡ (is_printed_mark (mark_at (rows_of before) c) || bare (figures_of before) (stands before) c)
  printed_at c = elim (cases_lt c (figures_of before).shape.cells) [
    | inl h ↦
        rw (met.marks c h, lt-ltb c (figures_of before).shape.cells h)
        (printed_mark (needs (rows_of before) c) (mark_at (rows_of before) c) (tied_at before c h))
    | inr h ↦ let p = met.past c h in rw (p.0, p.1, le-ltb c (figures_of before).shape.cells h)
  ]

  complement_at : (c : ℕ) → is_complement_mark (mark_at (rows_of after) c) ≡ is_complement_mark (mark_at (rows_of before) c)
  complement_at c = elim (cases_lt c (figures_of before).shape.cells) [
    | inl h ↦ rw (met.marks c h) (page_complement (mark_at (rows_of before) c))
    | inr h ↦ let p = met.past c h in rw (p.0, p.1)
  ]

  pub stands_printed : stands after ≡ accepted (figures_of before) (stands before) (print memory)
  stands_printed = λ i. record { complement = λ c. complement_at c i; printed = λ c. printed_at c i }

-- AN ACCEPTED PRINT
-- the page of the sheet as it stood before trials, where it was written after them
pub print_page : (s t : Sheet) (before memory : List ℕ) → SameTable s t → memory ≡ page_of (figures_of t) (stands t) ++ drop (19 * (figures_of t).shape.cells) before
    → memory ≡ page_of (figures_of s) (stands s) ++ drop (19 * (figures_of s).shape.cells) before
print_page s t before memory same written =
    written
    ∙ ap (λ (F : Figures). page_of F (stands t) ++ drop (19 * F.shape.cells) before) (same_table_figures s t same)
    ∙ ap (λ (st : Standing). page_of (figures_of s) st ++ drop (19 * (figures_of s).shape.cells) before) (ap standing_of same.same_rows)

pub acted_printed : (s after : Sheet) (before memory : List ℕ) (n : ℕ) → refusal (figures_of s) (stands s) (print (length before)) ≡ None
    → memory ≡ page_of (figures_of s) (stands s) ++ drop (19 * (figures_of s).shape.cells) before → MetEach s (λ _. PagePrinted) after
    → n ≡ 19 * (figures_of s).shape.cells → Acted s (print (length before)) (page (take n memory)) after
acted_printed s after before memory n good written met size = record {
  does = record {
    right =
        ap page (ap (λ (xs : List ℕ). take n xs) written ∙ take_at (page_of (figures_of s) (stands s)) _ n (length_page (figures_of s).shape.cells (shown (figures_of s) (stands s)) (sheet_printable s) ∙ sym size))
        ∙ ap (λ (o : Option Refusal). unless o (page (page_of (figures_of s) (stands s)))) (sym good);
    leaves = stands_printed s after (length before) met;
  };
  same_network = met.same_network;
  same_figures = met.same_figures;
  same_rows = λ r f. cc;
}
