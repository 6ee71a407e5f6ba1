-- The walk back has come to the relation r, and only the two ends of the path are out of balance.
use Rattle.std.proofs.Common.{◌<◌}
use Rattle.layouts.specs.Admission.{shape_of}
use Rattle.readings.specs.Paths.{Walked, at, layer_in, turned, withheld_by}
use Rattle.readings.proofs.paths.change.Given as goal

abbrev pub invariant-loop-r : goal.invariant-loop-r
invariant-loop-r l =
    Walked (turned (shape_of l.network) l.side) (withheld_by l.covers) (at l.initial.table) l.amount (layer_in l.network.relations l.reached) l.goal l.r (at l.table)
    × (l.r < l.network.relations) × (layer_in l.network.relations l.reached l.r < l.network.relations)

abbrev pub decreases-loop-r : goal.decreases-loop-r
decreases-loop-r l = layer_in l.network.relations l.reached l.r
