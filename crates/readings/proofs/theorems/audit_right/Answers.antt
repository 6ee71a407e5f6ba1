-- The audit names the first cell that is exposed.
use Rattle.readings.proofs.Audits.{audit_right_lem}
use Rattle.readings.proofs.theorems.audit_right.Goals as goal

pub returns : goal.returns
returns c = audit_right_lem
