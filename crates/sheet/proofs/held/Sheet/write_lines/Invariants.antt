-- The lines so far are written, and what stood after them stays.
use Rattle.std.proofs.Common.{◌≡◌, ◌*◌, ◌++◌, drop}
use Rattle.page.specs.Page.{page}
use Rattle.runs.specs.Acts.{shown}
use Rattle.sheet.specs.Sheets.{figures_of, stands}
use Rattle.sheet.proofs.held.Sheet.write_lines.Given as goal

abbrev pub invariant-loop-cell : goal.invariant-loop-cell
invariant-loop-cell l = l.memory ≡ page l.cell (shown (figures_of l.self) (stands l.self)) ++ drop (19 * l.cell) l.initial.memory
