-- The entries so far are good, so what is wrong with the rest is what is wrong with the list.
use Rattle.std.proofs.Common.{◌≡◌, drop}
use Rattle.runs.specs.Acts.{bad_entry}
use Rattle.sheet.specs.Sheets.{figures_of, stands}
use Rattle.sheet.proofs.held.Sheet.check_entries.Given as goal

abbrev pub invariant-loop-cell : goal.invariant-loop-cell
invariant-loop-cell l = bad_entry (figures_of l.self) (stands l.self) l.cells ≡ bad_entry (figures_of l.self) (stands l.self) (drop l.cell-index l.cells)
