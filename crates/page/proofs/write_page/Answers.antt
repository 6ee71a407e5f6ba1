-- Line by line, or nothing at all.
use Rattle.std.proofs.Common.{length, sym, ◌∙◌}
use Rattle.page.specs.Writing.{shown_entry}
use Rattle.page.proofs.Pages.{room_printable, page_none, over_more}
use Rattle.page.proofs.Reading.{page_laws}
use Rattle.page.proofs.write_page.Goals as goal

pub returns-then-not-page_fits-clause-laws : goal.returns-then-not-page_fits-clause-laws
returns-then-not-page_fits-clause-laws c = page_laws

pub loop-cell-init : goal.loop-cell-init
loop-cell-init c = page_none (shown_entry c.args.shown.now) c.args.memory.now

pub loop-cell-preserved : goal.loop-cell-preserved
loop-cell-preserved c =
    let p = room_printable _ c.args.shown.now (sym c.if-not-page_fits.ensures) in
    c.put_line.ensures ∙ over_more (length c.args.shown.now) (shown_entry c.args.shown.now) c.args.memory.now p.0 p.1 c.loop-cell.cell c.loop-cell.memory c.loop-cell-test.true c.loop-cell.invariant

pub returns-clause-laws : goal.returns-clause-laws
returns-clause-laws c = page_laws
