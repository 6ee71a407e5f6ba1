-- The first cell that has an answer gives the audit's.
use Rattle.std.proofs.Common.{sym, ap, ◌∙◌, arith}
use Rattle.layouts.proofs.Kept.{network_cells}
use Rattle.layouts.specs.Admission.{shape_of}
use Rattle.layouts.specs.declared.memory.Cover.{Cover}
use Rattle.std.proofs.Common.{List}
use Rattle.readings.specs.Exposure.{Figures, exposure_at}
use Rattle.readings.specs.Paths.{withheld_by}
use Rattle.readings.specs.Rows.{looked_at}
use Rattle.readings.proofs.Firsts.{first_from_more, first_from_here, first_from_all}
use Rattle.readings.proofs.audit.first_exposed.Goals as goal

pub returns-in-Some-clause-says : goal.returns-in-Some-clause-says
returns-in-Some-clause-says c =
    let F : Figures = looked_at (shape_of c.args.network.now) c.args.rows.now in
    sym (c.loop-cell.invariant.2 ∙ first_from_here _ c.loop-cell.cell _ c.in-Some.found (omega (arith, network_cells c.args.network.now))
    (sym (c.in-Some.ensures.says ∙ ap (λ (m : List Cover). exposure_at F (withheld_by m) c.loop-cell.cell) c.loop-cell.invariant.1)))

pub loop-cell-preserved : goal.loop-cell-preserved
loop-cell-preserved c =
    let F : Figures = looked_at (shape_of c.args.network.now) c.args.rows.now in (
      c.exposed_at.ensures.lent,
      c.exposed_at.ensures.kept ∙ c.loop-cell.invariant.1,
      c.loop-cell.invariant.2 ∙ first_from_more _ c.loop-cell.cell _ (omega (arith, network_cells c.args.network.now))
          (sym (c.in_default.ensures.says ∙ ap (λ (m : List Cover). exposure_at F (withheld_by m) c.loop-cell.cell) c.loop-cell.invariant.1)),
    )

pub returns-clause-says : goal.returns-clause-says
returns-clause-says c = sym (c.loop-cell.invariant.2 ∙ first_from_all _ c.loop-cell.cell _ (omega (arith, network_cells c.args.network.now)))
