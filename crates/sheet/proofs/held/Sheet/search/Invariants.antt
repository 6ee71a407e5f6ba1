-- The cells from here on are decided.
use Rattle.sheet.proofs.Tries.{Searching}
use Rattle.sheet.proofs.held.Sheet.search.Given as goal

abbrev pub invariant-loop-cell : goal.invariant-loop-cell
invariant-loop-cell l = Searching l.initial.self l.cell l.added l.self
