use Rattle.std.proofs.Common.{◌<◌, ◌∙◌, arith}
use Rattle.page.proofs.Pages.{page_none, line_more}
use Rattle.runs.specs.Acts.{shown}
use Rattle.sheet.specs.Sheets.{figures_of, stands}
use Rattle.sheet.proofs.Shown.{row_shown, sheet_printable}
use Rattle.sheet.proofs.Facts.{rows_long}
use Rattle.sheet.proofs.held.Sheet.write_lines.Goals as goal

pub loop-cell-init : goal.loop-cell-init
loop-cell-init c = page_none (shown (figures_of c.args.self.now) (stands c.args.self.now)) c.args.memory.now

pub loop-cell-preserved : goal.loop-cell-preserved
loop-cell-preserved c =
    let s = c.args.self.now in
    let e = c.shown.ensures in
    let is = c.deref-row-items.ensures.value in
    let l : c.loop-cell.cell < (figures_of s).shape.cells = omega (arith, rows_long s) in
    c.write_line.ensures.after
    ∙ line_more (figures_of s).shape.cells (shown (figures_of s) (stands s)) c.args.memory.now (sheet_printable s) c.requires c.loop-cell.cell c.loop-cell.memory
    l c.loop-cell.invariant c.shown.result (rw is at e ∙ row_shown s c.loop-cell.cell l)
