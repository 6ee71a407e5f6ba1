-- The rest of the entering leads to what the whole leads to.
use Rattle.std.proofs.Common.{◌≡◌, drop, vec_items}
use Rattle.layouts.specs.Admission.{shape_of}
use Rattle.intake.specs.Chains.{held}
use Rattle.office.specs.Office.{entered_after}
use Rattle.office.proofs.running.enter_all.Given as goal

abbrev pub invariant-loop-x : goal.invariant-loop-x
invariant-loop-x g l =
    (entered_after (shape_of l.initial.intake.network) (held (vec_items l.initial.intake.chains.records)) l.contributions
    ≡ entered_after (shape_of l.initial.intake.network) (held (vec_items l.intake.chains.records)) (drop l.x-index l.contributions))
    × (l.intake.network ≡ l.initial.intake.network)
    × (l.intake.rule ≡ l.initial.intake.rule)
