-- One row more is settled.
use Rattle.std.proofs.Common.{◌<◌, [], length, take, vec_items, ◌∙◌, arith}
use Rattle.std.proofs.lemmas.List.{take_more_set}
use Rattle.layouts.specs.Admission.{shape_of}
use Rattle.layouts.proofs.Values.{values_push}
use Rattle.intake.specs.Chains.{held}
use Rattle.intake.specs.Settling.{settled_row}
use Rattle.intake.proofs.Settles.{row_meaning}
use Rattle.intake.proofs.settling.settle_rows.Goals as goal

pub loop-cell-preserved : goal.loop-cell-preserved
loop-cell-preserved g c =
    let s = shape_of c.args.network.now in
    let xs = held (vec_items c.args.chains.now.records) in
    let m = g.R.Rule.meaning c.args.rule.now in
    let i = c.loop-cell.cell in
    let inv = c.loop-cell.invariant in
    let h : i < length c.loop-cell.rows = omega (arith, c.loop-cell.auto.rows, c.loop-cell-test.true) in
    let row = c.settle_cell.ensures.row ∙ row_meaning s (g.R.Rule.meaning c.loop-cell.rule) m xs i inv.1 in (
      values_push [] (take i c.loop-cell.rows) _ i (settled_row s m xs) c.settle_cell.result inv.0 (take_more_set c.loop-cell.rows i c.settle_cell.result h) row,
      λ ys. c.settle_cell.ensures.same ys ∙ inv.1 ys,
    )
