-- The marks of the cells below this one are listed.
use Rattle.std.proofs.Common.{◌≡◌, vec_items}
use Rattle.layouts.specs.Copied.{marks_of, values}
use Rattle.layouts.proofs.copying.copy_marks.Given as goal

abbrev pub invariant-loop-cell : goal.invariant-loop-cell
invariant-loop-cell g l = vec_items l.under ≡ values l.cell (marks_of (g.L.Layout.shape l.layout) l.leaf)
