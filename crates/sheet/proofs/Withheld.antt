-- Once each cell has met what a list is to it, the sheet stands as an accepted withhold leaves it.
use Rattle.std.proofs.Common.{◌≡◌, ℕ, ◌<◌, ◌≤◌, Bool, true, false, cond, not, ◌&&◌, ltb, List, None, sym, refl, ap, ◌∙◌, inl, inr, arith}
use Rattle.std.proofs.lemmas.Bool.{cases_lt, false_from_ne_true, true≢false, false≢true}
use Rattle.layouts.specs.declared.memory.Mark.{Mark}
use Rattle.layouts.specs.declared.memory.Mark.TheVariants.{Open, Sensitive, Complement, Printed, Barred}
use Rattle.sums.specs.Sums.{among}
use Rattle.readings.specs.Exposure.{Figures}
use Rattle.readings.specs.Rows.{needs}
use Rattle.intake.specs.Marks.{mark_at}
use Rattle.runs.specs.Acts.{withhold, refusal, accepted, count, unless, complements}
use Rattle.sheet.specs.declared.held.Sheet.{Sheet}
use Rattle.sheet.specs.declared.events.Event.TheVariants.{Listed, Unlisted}
use Rattle.sheet.specs.Cells.{goes_with}
use Rattle.sheet.specs.Events.{next_mark}
use Rattle.sheet.specs.Standing.{is_complement_mark, is_printed_mark}
use Rattle.sheet.specs.Sheets.{rows_of, figures_of, stands, Acted, listing}
use Rattle.sheet.proofs.Entries.{listed_good, entries_accepted}
use Rattle.sheet.proofs.Meetings.{MetEach}
use Rattle.sheet.proofs.Facts.{tied_at}

-- a cell that meets the list is a complement exactly where it is listed and not sensitive
listed_complement : (need : ℕ) (m : Mark) (a : Bool) → goes_with need m ≡ true → (a ≡ true → is_printed_mark m ≡ false)
    → is_complement_mark (next_mark m (cond a Listed Unlisted)) ≡ (a && not (ltb 0 need))
listed_complement need Open true g p = sym g
listed_complement need Open false g p = refl
listed_complement need Sensitive true g p = sym (ap not g)
listed_complement need Sensitive false g p = refl
listed_complement need Complement true g p = sym g
listed_complement need Complement false g p = refl
listed_complement need Printed true g p = absurd (true≢false (p refl))
listed_complement need Printed false g p = refl
listed_complement need Barred a g p = absurd (false≢true g)

listed_printed : (m : Mark) (a : Bool) → is_printed_mark (next_mark m (cond a Listed Unlisted)) ≡ is_printed_mark m
listed_printed Open true = refl
listed_printed Open false = refl
listed_printed Sensitive a = refl
listed_printed Complement true = refl
listed_printed Complement false = refl
listed_printed Printed a = refl
listed_printed Barred a = refl

module _ (before after : Sheet) (l : List ℕ) (good : refusal (figures_of before) (stands before) (withhold l) ≡ None) (met : MetEach before (listing l) after) where
  listed : (c : ℕ) → among c l ≡ true → (c < (figures_of before).shape.cells) × ((stands before).printed c ≡ false)
  listed c = listed_good (figures_of before) (stands before) l c (entries_accepted (figures_of before) (stands before) l good)

  beyond : (c : ℕ) → (figures_of before).shape.cells ≤ c → among c l ≡ false
  beyond c h = false_from_ne_true (among c l) (λ e. let k = listed c e in omega (arith, k.0))

  complement_at : (c : ℕ) → is_complement_mark (mark_at (rows_of after) c) ≡ (among c l && not (ltb 0 (needs (rows_of before) c)))
  complement_at c = elim (cases_lt c (figures_of before).shape.cells) [
    | inl h ↦ rw (met.marks c h) (listed_complement (needs (rows_of before) c) (mark_at (rows_of before) c) (among c l) (tied_at before c h) (λ e. (listed c e).1))
    | inr h ↦ let p = met.past c h in rw (p.0, beyond c h)
  ]

  printed_at : (c : ℕ) → is_printed_mark (mark_at (rows_of after) c) ≡ is_printed_mark (mark_at (rows_of before) c)
  printed_at c = elim (cases_lt c (figures_of before).shape.cells) [
    | inl h ↦ rw (met.marks c h) (listed_printed (mark_at (rows_of before) c) (among c l))
    | inr h ↦ let p = met.past c h in rw (p.0, p.1)
  ]

  pub stands_withheld : stands after ≡ accepted (figures_of before) (stands before) (withhold l)
  stands_withheld = λ i. record { complement = λ c. complement_at c i; printed = λ c. printed_at c i }

  -- how many complements there are then
  pub counts_withheld : (n : ℕ) → n ≡ complements (figures_of after) (stands after) → n ≡ complements (figures_of before) (accepted (figures_of before) (stands before) (withhold l))
  counts_withheld n e =
      e ∙ ap (λ (F : Figures). complements F (stands after)) met.same_figures ∙ ap (complements (figures_of before)) stands_withheld

  pub acted_withheld : (n : ℕ) → n ≡ complements (figures_of after) (stands after) → Acted before (withhold l) (count n) after
  acted_withheld n e = record {
    does = record {
      right =
          ap count (counts_withheld n e)
          ∙ ap (λ o. unless o (count (complements (figures_of before) (accepted (figures_of before) (stands before) (withhold l))))) (sym good);
      leaves = stands_withheld;
    };
    same_network = met.same_network;
    same_figures = met.same_figures;
    same_rows = λ r f. cc;
  }
