-- The rule that was made has the N and the K asked for, and stands for all the amounts.
use Rattle.std.proofs.Common.{◌≡◌, min, arith}
use Rattle.judging.proofs.Judging.{accepted_all}
use Rattle.judging.proofs.judge_nk.Goals as goal

pub returns : goal.returns
returns c =
    let few : min c.args.n 3 ≡ c.args.n = omega (arith, c.in_ok-rule.rule.ok.1, c.in_ok-rule.ensures.made.0) in
    grind (arith, accepted_all 0 c.args.amounts.now)
