-- One edge more.
use Rattle.layouts.proofs.Values.{edges_push}
use Rattle.layouts.proofs.copying.copy_edges.Goals as goal

pub loop-cell-preserved : goal.loop-cell-preserved
loop-cell-preserved g c =
    edges_push (g.L.Layout.shape c.args.layout.now) c.loop-cell.cell c.in_ok-copy_edge.field-0 _ _ c.loop-cell.invariant c.in_ok-push.ensures.items c.in_ok-copy_edge.ensures
