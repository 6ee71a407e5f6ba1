-- The covers that a trial goes by, and what a trial leaves of a sheet.
use Rattle.std.specs.Prelude.{◌≡◌, ℕ, Bool, cond, List, map, is_some, vec_items, slice_set}
use Rattle.layouts.specs.declared.memory.Cover.{Cover}
use Rattle.layouts.specs.declared.memory.Cover.TheVariants.{Shown, Withheld}
use Rattle.layouts.specs.declared.memory.Row.{Row}
use Rattle.layouts.specs.declared.memory.Mark.{Mark}
use Rattle.layouts.specs.declared.memory.Mark.TheVariants.{Open, Sensitive, Complement, Printed, Barred}
use Rattle.readings.specs.Exposure.{audit}
use Rattle.readings.specs.Paths.{withheld_by}
use Rattle.sheet.specs.declared.held.Sheet.{Sheet}
use Rattle.sheet.specs.declared.events.Event.TheVariants.{Added}
use Rattle.sheet.specs.Cells.{row_at}
use Rattle.sheet.specs.Events.{met}
use Rattle.sheet.specs.Sheets.{rows_of, figures_of}

-- a sensitive cell and a complement are withheld, and a printed cell is shown; what covers an open cell is chosen
abbrev pub cover_of_mark : Cover → Mark → Cover
cover_of_mark chosen Open = chosen
cover_of_mark chosen Sensitive = Withheld
cover_of_mark chosen Complement = Withheld
cover_of_mark chosen Printed = Shown
cover_of_mark chosen Barred = Shown

abbrev pub covers_of : Cover → List Row → List Cover
covers_of chosen rows = map (λ (r : Row). cover_of_mark chosen r.mark) rows

-- Nothing but the memory of trials is other than it was.
pub record SameTable (before after : Sheet) : Type 0 where
  pub same_network : after.network ≡ before.network
  pub same_rows : rows_of after ≡ rows_of before

-- The open cell c was shown to a trial, and an audit found somebody exposed, or nobody; then it was covered again, and is a complement,
-- or not.
pub record Tried (before : Sheet) (c : ℕ) (found : Bool) (after : Sheet) : Type 0 where
  pub same_network : after.network ≡ before.network
  pub finds : found ≡ is_some (audit (figures_of before) (withheld_by (slice_set (vec_items before.bench.covers) c Shown)))
  pub covers : vec_items after.bench.covers ≡ cond found (slice_set (slice_set (vec_items before.bench.covers) c Shown) c Withheld) (slice_set (vec_items before.bench.covers) c Shown)
  pub rows : rows_of after ≡ cond found (slice_set (rows_of before) c (met (row_at (rows_of before) c) Added)) (rows_of before)
