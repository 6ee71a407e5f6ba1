-- What is left of the contributions has the fault.
use Rattle.std.proofs.Common.{◌≡◌, ◌+◌, drop}
use Rattle.composing.specs.Composed.{fault_from}
use Rattle.composing.proofs.deposit.check.Given as goal

abbrev pub invariant-loop-i : goal.invariant-loop-i
invariant-loop-i l = fault_from l.cells (l.i + 2) (drop l.i l.contributions) ≡ fault_from l.cells 2 l.contributions
