-- What is reached so far is numbered in its order; each turn reaches one relation more, or begins a new round.
use Rattle.std.proofs.Common.{◌+◌, ◌-◌, ◌*◌, min}
use Rattle.layouts.specs.Admission.{shape_of}
use Rattle.readings.specs.Paths.{Searched, at, layer_in, turned, via_in, withheld_by}
use Rattle.readings.proofs.Reaching.{Ranked}
use Rattle.readings.proofs.paths.Search.run.Given as goal

abbrev pub invariant-loop-reached : goal.invariant-loop-reached
invariant-loop-reached l =
    Searched (turned (shape_of l.self.network.now) l.self.side) (withheld_by l.self.covers.now) (at l.self.table.now) l.self.amount l.start
    (layer_in l.self.network.now.relations l.reached) (via_in l.reached) l.count
    × Ranked l.self.network.now.relations l.reached

abbrev pub decreases-loop-reached : goal.decreases-loop-reached
decreases-loop-reached l = (l.self.network.now.relations - l.count) * 2 + min l.from 1
