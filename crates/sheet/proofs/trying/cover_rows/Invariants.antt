-- The covers so far are those of the rows.
use Rattle.std.proofs.Common.{◌≡◌, ℕ, ◌<◌, get_or}
use Rattle.layouts.specs.declared.memory.Cover.TheVariants.{Shown}
use Rattle.sheet.specs.Trying.{covers_of}
use Rattle.sheet.proofs.trying.cover_rows.Given as goal

abbrev pub invariant-loop-cell : goal.invariant-loop-cell
invariant-loop-cell l = (k : ℕ) → k < l.cell → get_or l.covers k Shown ≡ get_or (covers_of l.chosen l.rows) k Shown
