-- The rows below the cell are settled.
use Rattle.std.proofs.Common.{◌≡◌, ℕ, List, take, vec_items}
use Rattle.layouts.specs.Admission.{shape_of}
use Rattle.layouts.specs.Copied.{values}
use Rattle.intake.specs.Chains.{held}
use Rattle.intake.specs.Settling.{settled_row}
use Rattle.intake.proofs.settling.settle_rows.Given as goal

abbrev pub invariant-loop-cell : goal.invariant-loop-cell
invariant-loop-cell g l =
    (take l.cell l.rows ≡ values l.cell (settled_row (shape_of l.network) (g.R.Rule.meaning l.initial.rule) (held (vec_items l.chains.records))))
    × ((xs : List ℕ) → g.R.Rule.meaning l.rule xs ≡ g.R.Rule.meaning l.initial.rule xs)
