-- A contribution is three numbers, one after another.
use Rattle.std.proofs.Common.{arith}
use Rattle.std.proofs.lemmas.Grind.{common_steps}
use Rattle.composing.proofs.text.read_contribution.Goals as goal

pub returns : goal.returns
returns c = grind (arith, common_steps)
