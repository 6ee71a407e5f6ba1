-- The cell in hand leads on, or the next one is looked at.
use Rattle.std.proofs.Common.{sym, ◌∙◌, arith}
use Rattle.std.proofs.lemmas.Bool.{cond-true, cond-false}
use Rattle.layouts.proofs.Kept.{network_cells}
use Rattle.readings.proofs.Firsts.{first_from_more, first_from_here, first_from_all}
use Rattle.readings.proofs.paths.Search.next.Goals as goal

pub returns-then-leads-clause-first : goal.returns-then-leads-clause-first
returns-then-leads-clause-first c =
    sym (c.loop-cell.invariant ∙ first_from_here _ c.loop-cell.cell _ c.loop-cell.cell (omega (arith, network_cells c.args.self.now.network.now)) (cond-true _ _ _ (sym c.leads.ensures ∙ c.if-leads.true)))

pub loop-cell-preserved : goal.loop-cell-preserved
loop-cell-preserved c =
    c.loop-cell.invariant
    ∙ first_from_more _ c.loop-cell.cell _ (omega (arith, network_cells c.args.self.now.network.now)) (cond-false _ _ _ (sym c.leads.ensures ∙ c.if-leads.false))

pub returns-clause-first : goal.returns-clause-first
returns-clause-first c = sym (c.loop-cell.invariant ∙ first_from_all _ c.loop-cell.cell _ (omega (arith, network_cells c.args.self.now.network.now)))
