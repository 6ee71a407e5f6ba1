-- There is an edge for each cell below this one.
use Rattle.std.proofs.Common.{vec_items}
use Rattle.layouts.specs.Admission.{EdgesOf}
use Rattle.layouts.proofs.copying.copy_edges.Given as goal

abbrev pub invariant-loop-cell : goal.invariant-loop-cell
invariant-loop-cell g l = EdgesOf (g.L.Layout.shape l.layout) l.cell (vec_items l.edges)
