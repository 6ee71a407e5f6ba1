-- A search on its way down: the cells from i on are decided, and the open ones below i are still withheld.
use Rattle.std.proofs.Common.{◌≡◌, ℕ, ◌+◌, ◌<◌, ◌≤◌, Bool, true, false, not, ◌&&◌, ◌||◌, eqb, ltb, List, map, length, get_or, set, sym, refl, ap, ◌∙◌, inl, inr, arith, length-set}
use Rattle.std.proofs.Math.Bool.{and-true, or-false, or-true}
use Rattle.std.proofs.lemmas.List.{get_or_past, get_or-map, length-map, get_or-set_same, get_or-set_other}
use Rattle.std.proofs.lemmas.Bool.{lt-ltb, le-ltb, cases_eq, cases_lt, eq-eqb, ne_eqb, not-true, false≢true}
use Rattle.layouts.specs.Blank.{is_open_mark, blank}
use Rattle.layouts.specs.declared.memory.Cover.{Cover}
use Rattle.layouts.specs.declared.memory.Cover.TheVariants.{Shown, Withheld}
use Rattle.layouts.specs.declared.memory.Row.{Row}
use Rattle.layouts.specs.declared.memory.Mark.{Mark}
use Rattle.layouts.specs.declared.memory.Mark.TheVariants.{Open, Sensitive, Complement, Printed, Barred}
use Rattle.readings.specs.Exposure.{Figures}
use Rattle.readings.specs.Paths.{is_withheld, withheld_by}
use Rattle.readings.specs.Rows.{needs}
use Rattle.intake.specs.Marks.{mark_at}
use Rattle.runs.specs.Acts.{Standing, withheld, newly, closed, opened}
use Rattle.sheet.specs.declared.held.Sheet.{Sheet}
use Rattle.sheet.specs.declared.events.Event.TheVariants.{Added}
use Rattle.sheet.specs.Cells.{goes_with, row_at}
use Rattle.sheet.specs.Events.{met}
use Rattle.sheet.specs.Standing.{is_complement_mark, is_printed_mark, standing_of}
use Rattle.sheet.specs.Sheets.{rows_of, figures_of, stands}
use Rattle.sheet.specs.Trying.{cover_of_mark, covers_of}
use Rattle.sheet.proofs.Begun.{mark_past}
use Rattle.sheet.proofs.Facts.{rows_long, tied_at}
use Rattle.sheet.proofs.Marking.{mark_of, met_there, met_elsewhere}
use Rattle.sheet.proofs.Meetings.{below_next}

-- the cell c is withheld, though its need may be 0: it is a complement, or open and below i
abbrev pub shut : ℕ → List Row → ℕ → Bool
shut i rows c = is_complement_mark (mark_at rows c) || (ltb c i && is_open_mark (mark_at rows c))

abbrev pub half : ℕ → List Row → Standing
half i rows = record { complement = shut i rows; printed = λ c. is_printed_mark (mark_at rows c) }

-- MARKS AND NEEDS
-- an open cell has no need
pub open_needless : (need : ℕ) (m : Mark) → goes_with need m ≡ true → is_open_mark m ≡ true → ltb 0 need ≡ false
open_needless need Open g e = not-true (ltb 0 need) g
open_needless need Sensitive g e = absurd (false≢true e)
open_needless need Complement g e = absurd (false≢true e)
open_needless need Printed g e = absurd (false≢true e)
open_needless need Barred g e = absurd (false≢true e)

new_mark : (need : ℕ) (m : Mark) → goes_with need m ≡ true → (not (ltb 0 need || is_complement_mark m) && not (is_printed_mark m)) ≡ is_open_mark m
new_mark need Open g = let e = not-true (ltb 0 need) g in rw e
new_mark need Sensitive g = rw g
new_mark need Complement g = let e = not-true (ltb 0 need) g in rw e
new_mark need Printed g = let e = not-true (ltb 0 need) g in rw e
new_mark need Barred g = absurd (false≢true g)

cover_mark : (chosen : Cover) (need : ℕ) (m : Mark) (b : Bool) → goes_with need m ≡ true → is_withheld chosen ≡ b
    → is_withheld (cover_of_mark chosen m) ≡ (ltb 0 need || (is_complement_mark m || (b && is_open_mark m)))
cover_mark chosen need Open true g e = let n = not-true (ltb 0 need) g in rw (n, e)
cover_mark chosen need Open false g e = let n = not-true (ltb 0 need) g in rw (n, e)
cover_mark chosen need Sensitive b g e = rw g
cover_mark chosen need Complement b g e = let n = not-true (ltb 0 need) g in rw n
cover_mark chosen need Printed true g e = let n = not-true (ltb 0 need) g in rw n
cover_mark chosen need Printed false g e = let n = not-true (ltb 0 need) g in rw n
cover_mark chosen need Barred b g e = absurd (false≢true g)

-- AT ITS BEGINNING AND AT ITS END
-- what a search withholds first are the open cells
pub new_open : (s : Sheet) (c : ℕ) → newly (figures_of s) (stands s) c ≡ (ltb c (figures_of s).shape.cells && is_open_mark (mark_at (rows_of s) c))
new_open s c = elim (cases_lt c (figures_of s).shape.cells) [
  | inl l ↦ rw (lt-ltb c (figures_of s).shape.cells l) (new_mark (needs (rows_of s) c) (mark_at (rows_of s) c) (tied_at s c l))
  | inr l ↦ rw (le-ltb c (figures_of s).shape.cells l)
]

pub half_closed : (s : Sheet) → half (figures_of s).shape.cells (rows_of s) ≡ closed (figures_of s) (stands s)
half_closed s = λ i. record {
  complement = λ c. is_complement_mark (mark_at (rows_of s) c) || sym (new_open s c) i;
  printed = λ c. is_printed_mark (mark_at (rows_of s) c);
}

pub half_none : (rows : List Row) → half 0 rows ≡ standing_of rows
half_none rows = λ i. record { complement = λ c. none c i; printed = λ c. is_printed_mark (mark_at rows c) }
  where
    none : (c : ℕ) → shut 0 rows c ≡ is_complement_mark (mark_at rows c)
    none c = rw (le-ltb c 0 (omega arith)) (or-false (is_complement_mark (mark_at rows c)))

-- the covers withhold what is withheld, where the open cells below i are
pub covers_half : (s : Sheet) (chosen : Cover) (i : ℕ) → i ≤ (figures_of s).shape.cells → ((c : ℕ) → c < (figures_of s).shape.cells → is_withheld chosen ≡ ltb c i)
    → (c : ℕ) → withheld_by (covers_of chosen (rows_of s)) c ≡ withheld (figures_of s) (half i (rows_of s)) c
covers_half s chosen i few same c = elim (cases_lt c (figures_of s).shape.cells) [
  | inl l ↦
      ap is_withheld (get_or-map (λ (r : Row). cover_of_mark chosen r.mark) (rows_of s) c blank Shown (omega (arith, rows_long s)) ∙ ap (cover_of_mark chosen) (sym (mark_of (rows_of s) c)))
      ∙ cover_mark chosen (needs (rows_of s) c) (mark_at (rows_of s) c) (ltb c i) (tied_at s c l) (same c l)
  | inr l ↦
      let long : length (rows_of s) ≤ c = omega (arith, rows_long s) in
      let n : needs (rows_of s) c ≡ 0 = get_or_past (map (λ (r : Row). r.need) (rows_of s)) c 0 (rw length-map long) in
      let m : mark_at (rows_of s) c ≡ Open = mark_past (rows_of s) c long in
      let b : get_or (covers_of chosen (rows_of s)) c Shown ≡ Shown = get_or_past (covers_of chosen (rows_of s)) c Shown (rw length-map long) in
      let o : ltb c i ≡ false = le-ltb c i (omega arith) in
      rw (b, n, m, o)
]

-- ONE CELL ON
module _ (rows : List Row) (k : ℕ) where
  -- a cell that is not open is not new
  pub half_old : is_open_mark (mark_at rows k) ≡ false → half (k + 1) rows ≡ half k rows
  half_old e = λ i. record { complement = λ c. at c i; printed = λ c. is_printed_mark (mark_at rows c) }
    where
      at : (c : ℕ) → shut (k + 1) rows c ≡ shut k rows c
      at c = elim (cases_eq c k) [
        | inl same ↦ rw (same, e, lt-ltb k (k + 1) (omega arith), le-ltb k k (omega arith))
        | inr ne ↦ rw (below_next c k ne)
      ]

  -- an open cell is opened again
  pub half_opened : mark_at rows k ≡ Open → opened k (half (k + 1) rows) ≡ half k rows
  half_opened e = λ i. record { complement = λ c. at c i; printed = λ c. is_printed_mark (mark_at rows c) }
    where
      at : (c : ℕ) → (shut (k + 1) rows c && not (eqb c k)) ≡ shut k rows c
      at c = elim (cases_eq c k) [
        | inl same ↦ rw (same, e, lt-ltb k (k + 1) (omega arith), eq-eqb k k refl, le-ltb k k (omega arith))
        | inr ne ↦ rw (below_next c k ne, ne_eqb c k ne) (and-true (shut k rows c))
      ]

  -- or it becomes a complement
  pub half_added : (after : List Row) → k < length rows → mark_at rows k ≡ Open → after ≡ set rows k (met (row_at rows k) Added) → half (k + 1) rows ≡ half k after
  half_added after l e is = λ i. record { complement = λ c. at c i; printed = λ c. out c i }
    where
      there : mark_at after k ≡ Complement
      there = met_there rows after k Added is l ∙ rw e

      at : (c : ℕ) → shut (k + 1) rows c ≡ shut k after c
      at c = elim (cases_eq c k) [
        | inl same ↦ rw (same, e, there, lt-ltb k (k + 1) (omega arith))
        | inr ne ↦ rw (below_next c k ne, met_elsewhere rows after k Added is c ne)
      ]

      out : (c : ℕ) → is_printed_mark (mark_at rows c) ≡ is_printed_mark (mark_at after c)
      out c = elim (cases_eq c k) [
        | inl same ↦ rw (same, e, there)
        | inr ne ↦ rw (met_elsewhere rows after k Added is c ne)
      ]

-- THE COVERS, ONE CELL ON
module _ (F : Figures) (rows : List Row) (covers : List Cover) (k : ℕ) (l : k < length covers) (e : mark_at rows k ≡ Open)
    (so_far : (c : ℕ) → withheld_by covers c ≡ withheld F (half (k + 1) rows) c) where
  pub covers_opened : ltb 0 (F.need k) ≡ false → (c : ℕ) → withheld_by (set covers k Shown) c ≡ withheld F (half k rows) c
  covers_opened n c = elim (cases_eq c k) [
    | inl same ↦
        ap (withheld_by (set covers k Shown)) same ∙ ap is_withheld (get_or-set_same covers k Shown Shown l)
        ∙ sym (ap (withheld F (half k rows)) same ∙ rw (n, e, le-ltb k k (omega arith)))
    | inr ne ↦
        ap is_withheld (get_or-set_other covers k c Shown Shown ne) ∙ so_far c
        ∙ ap (λ b. ltb 0 (F.need c) || (is_complement_mark (mark_at rows c) || (b && is_open_mark (mark_at rows c)))) (below_next c k ne)
  ]

  -- the cell is covered again
  pub covers_back : (c : ℕ) → withheld_by (set (set covers k Shown) k Withheld) c ≡ withheld F (half (k + 1) rows) c
  covers_back c = elim (cases_eq c k) [
    | inl same ↦
        ap (withheld_by (set (set covers k Shown) k Withheld)) same ∙ ap is_withheld (get_or-set_same (set covers k Shown) k Withheld Shown (rw length-set l))
        ∙ sym (ap (withheld F (half (k + 1) rows)) same ∙ rw (e, lt-ltb k (k + 1) (omega arith)) (or-true (ltb 0 (F.need k))))
    | inr ne ↦ ap is_withheld (get_or-set_other (set covers k Shown) k c Withheld Shown ne ∙ get_or-set_other covers k c Shown Shown ne) ∙ so_far c
  ]
