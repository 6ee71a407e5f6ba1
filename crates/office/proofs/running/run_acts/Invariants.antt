-- After i acts, the answers are those of a run that came to the sheet as it is.
use Rattle.std.proofs.Common.{vec_items}
use Rattle.sheet.specs.Sheets.{figures_of}
use Rattle.office.proofs.Ways.{Come}
use Rattle.office.proofs.running.run_acts.Given as goal

abbrev pub invariant-loop-act : goal.invariant-loop-act
invariant-loop-act l = Come (figures_of l.initial.sheet) l.acts l.act-index (vec_items l.answers) l.sheet
