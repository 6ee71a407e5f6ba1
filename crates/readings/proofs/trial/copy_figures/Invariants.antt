-- The figures up to the cell in hand are copied.
use Rattle.std.proofs.Common.{◌≡◌, ℕ, ◌<◌, get_or}
use Rattle.readings.specs.Rows.{figures}
use Rattle.readings.proofs.trial.copy_figures.Given as goal

abbrev pub invariant-loop-cell : goal.invariant-loop-cell
invariant-loop-cell l = (k : ℕ) → k < l.cell → get_or l.table k 0 ≡ figures l.rows k
