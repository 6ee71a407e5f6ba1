-- The table is balanced and has come a part of the way; each turn has less to go, or a smaller amount.
use Rattle.std.proofs.Common.{◌+◌}
use Rattle.layouts.specs.Admission.{shape_of}
use Rattle.readings.specs.Paths.{Trying, at, withheld_by}
use Rattle.readings.specs.Rows.{figures, needs}
use Rattle.readings.proofs.trial.try_cell.Given as goal

abbrev pub invariant-loop-left : goal.invariant-loop-left
invariant-loop-left l =
    Trying (shape_of l.network) l.side (withheld_by l.guard.covers.now) (figures l.rows) (needs l.rows l.cell) l.cell l.left l.amount (at l.table)

abbrev pub decreases-loop-left : goal.decreases-loop-left
decreases-loop-left l = l.left + l.amount
