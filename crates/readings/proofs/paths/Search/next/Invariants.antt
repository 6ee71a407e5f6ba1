-- No cell from the first number up to the one in hand leads on.
use Rattle.std.proofs.Common.{◌≡◌}
use Rattle.layouts.specs.Admission.{shape_of}
use Rattle.readings.specs.Paths.{at, is_reached, next_cell, withheld_by}
use Rattle.readings.proofs.paths.Search.next.Given as goal

abbrev pub invariant-loop-cell : goal.invariant-loop-cell
invariant-loop-cell l =
    next_cell (shape_of l.self.network.now) l.self.side (withheld_by l.self.covers.now) (at l.self.table.now) l.self.amount (is_reached l.reached) l.from
    ≡ next_cell (shape_of l.self.network.now) l.self.side (withheld_by l.self.covers.now) (at l.self.table.now) l.self.amount (is_reached l.reached) l.cell
