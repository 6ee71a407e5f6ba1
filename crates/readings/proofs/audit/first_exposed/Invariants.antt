-- No cell below the one in hand is exposed, and the bench is as it was lent.
use Rattle.std.proofs.Common.{◌≡◌, ◌-◌, vec_items}
use Rattle.layouts.specs.Admission.{shape_of}
use Rattle.readings.specs.Exposure.{audit, exposure_at, first_from}
use Rattle.readings.specs.Paths.{withheld_by}
use Rattle.readings.specs.Rows.{looked_at}
use Rattle.readings.specs.Tables.{Lent}
use Rattle.readings.proofs.audit.first_exposed.Given as goal

abbrev pub invariant-loop-cell : goal.invariant-loop-cell
invariant-loop-cell l =
    Lent l.network l.rows l.bench
    × (vec_items l.bench.covers ≡ vec_items l.initial.bench.covers)
    × (audit (looked_at (shape_of l.network) l.rows) (withheld_by (vec_items l.initial.bench.covers))
    ≡ first_from ((shape_of l.network).cells - l.cell) l.cell (exposure_at (looked_at (shape_of l.network) l.rows) (withheld_by (vec_items l.initial.bench.covers))))
