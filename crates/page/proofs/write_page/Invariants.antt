-- The lines of the cells so far, and then what the memory held.
use Rattle.std.proofs.Common.{◌≡◌, ◌*◌, ◌++◌, drop}
use Rattle.page.specs.Page.{page}
use Rattle.page.specs.Writing.{shown_entry}
use Rattle.page.proofs.write_page.Given as goal

abbrev pub invariant-loop-cell : goal.invariant-loop-cell
invariant-loop-cell l = l.memory ≡ page l.cell (shown_entry l.shown) ++ drop (19 * l.cell) l.initial.memory
