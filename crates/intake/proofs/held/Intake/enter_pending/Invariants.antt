-- The first of what was read are entered.
use Rattle.std.proofs.Common.{◌≡◌, ◌++◌, take, vec_items, vec_len}
use Rattle.intake.specs.Chains.{held}
use Rattle.intake.proofs.held.Intake.enter_pending.Given as goal

abbrev pub invariant-loop-x : goal.invariant-loop-x
invariant-loop-x g l =
    (held (vec_items l.chains.records) ≡ held (vec_items l.initial.chains.records) ++ take l.x-index l.x-items)
    × (vec_len l.chains.heads ≡ vec_len l.initial.chains.heads)
