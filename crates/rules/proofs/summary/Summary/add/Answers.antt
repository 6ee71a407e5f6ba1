use Rattle.std.proofs.Common.{refl, arith}
use Rattle.rules.proofs.Adding.{told_more}
use Rattle.rules.proofs.summary.Summary.add.Goals as goal

pub returns-clause-stands : goal.returns-clause-stands
returns-clause-stands c = λ xs h. told_more c.args.self.now _ xs c.args.amount h refl (omega arith) (omega arith) (omega arith) refl
