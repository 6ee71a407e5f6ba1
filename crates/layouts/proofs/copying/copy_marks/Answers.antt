-- One more mark, and the refusal of a push.
use Rattle.std.proofs.Common.{◌<◌, [], vec_items, arith}
use Rattle.layouts.specs.Copied.{marks_of}
use Rattle.layouts.proofs.Answered.{mark_told}
use Rattle.layouts.proofs.Values.{values_push}
use Rattle.layouts.proofs.copying.copy_marks.Goals as goal

pub loop-cell-preserved : goal.loop-cell-preserved
loop-cell-preserved g c =
    let s = g.L.Layout.shape c.args.layout.now in
    let i = c.loop-cell.cell in
    let lt : i < s.cells = omega arith in
    values_push [] (vec_items c.loop-cell.under) (vec_items c.push.new.self) i (marks_of s c.args.leaf) _ c.loop-cell.invariant c.in_ok-push.ensures.items
    (mark_told s i c.args.leaf c.counts.result _ lt c.counts.ensures c.unwrap_or.ensures)
