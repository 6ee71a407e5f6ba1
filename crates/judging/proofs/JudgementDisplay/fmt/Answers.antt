-- The lines follow one another.
use Rattle.std.proofs.Common.{arith}
use Rattle.std.proofs.lemmas.Grind.{common_steps}
use Rattle.judging.proofs.JudgementDisplay.fmt.Goals as goal

pub returns-in_ok-writeln-in-P-4-clause-writes : goal.returns-in_ok-writeln-in-P-4-clause-writes
returns-in_ok-writeln-in-P-4-clause-writes g c = rw c.in-P.is (λ plain ok. grind (arith, common_steps))

pub returns-in_ok-writeln-in-Nk-3-clause-writes : goal.returns-in_ok-writeln-in-Nk-3-clause-writes
returns-in_ok-writeln-in-Nk-3-clause-writes g c = rw c.in-Nk.is (λ plain ok. grind (arith, common_steps))
