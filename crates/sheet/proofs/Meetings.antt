-- All cells of a sheet meet an event each, one after another.
use Rattle.std.proofs.Common.{◌≡◌, ℕ, ◌+◌, ◌<◌, ◌≤◌, ltb, ◌≢◌, length, set, sym, ap, ◌∙◌, inl, inr, arith, below_more}
use Rattle.std.proofs.lemmas.Bool.{lt-ltb, le-ltb, cases_lt}
use Rattle.layouts.specs.declared.memory.Mark.TheVariants.{Open}
use Rattle.readings.specs.Exposure.{Figures}
use Rattle.intake.specs.Marks.{mark_at}
use Rattle.sheet.specs.declared.held.Sheet.{Sheet}
use Rattle.sheet.specs.declared.events.Event.{Event}
use Rattle.sheet.specs.Cells.{row_at}
use Rattle.sheet.specs.Events.{next_mark, met}
use Rattle.sheet.specs.Sheets.{rows_of, figures_of, Met}
use Rattle.sheet.proofs.Begun.{mark_past}
use Rattle.sheet.proofs.Facts.{rows_long, same_figures_by}
use Rattle.sheet.proofs.Marking.{met_figures, met_needs, met_there, met_elsewhere}

-- The cells below i have met an event each, and the others have their marks.
pub record MetBelow (before : Sheet) (IsFor : ℕ → Event → Type 0) (i : ℕ) (after : Sheet) : Type 0 where
  pub same_network : after.network ≡ before.network
  pub same_figures : figures_of after ≡ figures_of before
  pub marks : (c : ℕ) → c < i → (e : Event) × IsFor c e × (mark_at (rows_of after) c ≡ next_mark (mark_at (rows_of before) c) e)
  pub others : (c : ℕ) → i ≤ c → mark_at (rows_of after) c ≡ mark_at (rows_of before) c

-- but at i itself, being below i + 1 is being below i
pub below_next : (c i : ℕ) → c ≢ i → ltb c (i + 1) ≡ ltb c i
below_next c i ne = elim (cases_lt c i) [
  | inl l ↦ lt-ltb c (i + 1) (omega arith) ∙ sym (lt-ltb c i l)
  | inr l ↦ le-ltb c (i + 1) (omega (arith, ne)) ∙ sym (le-ltb c i l)
]

module _ (before mid after : Sheet) (IsFor : ℕ → Event → Type 0) (i : ℕ) (so_far : MetBelow before IsFor i mid) (l : i < (figures_of before).shape.cells)
    (e : Event) (for_it : IsFor i e) (net : after.network ≡ mid.network) (is : rows_of after ≡ set (rows_of mid) i (met (row_at (rows_of mid) i) e)) where
  in_mid : i < length (rows_of mid)
  in_mid = omega (arith, rows_long mid, ap (λ (F : Figures). F.shape.cells) so_far.same_figures)

  elsewhere : (c : ℕ) → c ≢ i → mark_at (rows_of after) c ≡ mark_at (rows_of mid) c
  elsewhere = met_elsewhere (rows_of mid) (rows_of after) i e is

  pub met_more : MetBelow before IsFor (i + 1) after
  met_more = record {
    same_network = net ∙ so_far.same_network;
    same_figures =
        same_figures_by mid after net
        (met_figures (rows_of mid) (rows_of after) i e is) (met_needs (rows_of mid) (rows_of after) i e is)
        ∙ so_far.same_figures;
    marks = below_more _ _
        (λ c h. let ne : c ≢ i = omega arith in let m = so_far.marks c h in (m.0, m.1, elsewhere c ne ∙ m.2))
        (e, for_it, met_there (rows_of mid) (rows_of after) i e is in_mid ∙ ap (λ m. next_mark m e) (so_far.others i (omega arith)));
    others = λ c h. let ne : c ≢ i = omega arith in elsewhere c ne ∙ so_far.others c (omega arith);
  }

-- Where there is one event for each cell, each has met it; and past the cells there is no mark.
pub record MetEach (before : Sheet) (event : ℕ → Event) (after : Sheet) : Type 0 where
  pub same_network : after.network ≡ before.network
  pub same_figures : figures_of after ≡ figures_of before
  pub marks : (c : ℕ) → c < (figures_of before).shape.cells → mark_at (rows_of after) c ≡ next_mark (mark_at (rows_of before) c) (event c)
  pub past : (c : ℕ) → (figures_of before).shape.cells ≤ c → (mark_at (rows_of after) c ≡ Open) × (mark_at (rows_of before) c ≡ Open)

pub met_each : {before after : Sheet} {IsFor : ℕ → Event → Type 0} (event : ℕ → Event) → Met before IsFor after → ((c : ℕ) (e : Event) → IsFor c e → e ≡ event c)
    → MetEach before event after
met_each {before = before} {after = after} event met one = record {
  same_network = met.same_network;
  same_figures = met.same_figures;
  marks = λ c l. let m = met.marks c l in m.2 ∙ ap (next_mark (mark_at (rows_of before) c)) (one c m.0 m.1);
  past = λ c l. (
    mark_past (rows_of after) c (omega (arith, rows_long after, ap (λ (F : Figures). F.shape.cells) met.same_figures)),
    mark_past (rows_of before) c (omega (arith, rows_long before)),
  );
}
