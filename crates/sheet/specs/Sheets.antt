-- What a sheet holds, how it stands, and what a call leaves of it.
use Rattle.std.specs.Prelude.{◌≡◌, ℕ, ◌<◌, cond, List, vec_items}
use Rattle.refusals.specs.declared.Refusal.{Refusal}
use Rattle.sums.specs.Sums.{among}
use Rattle.layouts.specs.declared.memory.Row.{Row}
use Rattle.layouts.specs.Admission.{shape_of}
use Rattle.readings.specs.Exposure.{Figures}
use Rattle.readings.specs.Rows.{looked_at}
use Rattle.runs.specs.Acts.{Act, Answer, refused, Standing}
use Rattle.runs.specs.Runs.{Does}
use Rattle.intake.specs.Marks.{mark_at}
use Rattle.sheet.specs.declared.held.Sheet.{Sheet}
use Rattle.sheet.specs.declared.events.Event.{Event}
use Rattle.sheet.specs.declared.events.Event.TheVariants.{Listed, Unlisted}
use Rattle.sheet.specs.Events.{next_mark}
use Rattle.sheet.specs.Standing.{standing_of}

abbrev pub rows_of : Sheet → List Row
rows_of s = vec_items s.table.rows

-- the layout's answers with the figures and the needs
abbrev pub figures_of : Sheet → Figures
figures_of s = looked_at (shape_of s.network) (rows_of s)

abbrev pub stands : Sheet → Standing
stands s = standing_of (rows_of s)

-- A call gives the right answer to its act and leaves the standing that goes with it; figures and needs never change; and where the
-- act is refused, no row does.
pub record Acted (before : Sheet) (act : Act) (a : Answer) (after : Sheet) : Type 0 where
  pub does : Does (figures_of before) (stands before) act a (stands after)
  pub same_network : after.network ≡ before.network
  pub same_figures : figures_of after ≡ figures_of before
  pub same_rows : (r : Refusal) → a ≡ refused r → rows_of after ≡ rows_of before

-- Each cell has met an event that is one for it, and nothing but its mark has changed.
pub record Met (before : Sheet) (IsFor : ℕ → Event → Type 0) (after : Sheet) : Type 0 where
  pub same_network : after.network ≡ before.network
  pub same_figures : figures_of after ≡ figures_of before
  pub marks : (c : ℕ) → c < (figures_of before).shape.cells
      → (e : Event) × IsFor c e × (mark_at (rows_of after) c ≡ next_mark (mark_at (rows_of before) c) e)

-- what a withhold of this list is to each cell
abbrev pub listing : List ℕ → ℕ → Event
listing cells c = cond (among c cells) Listed Unlisted
