-- Each act goes on from what its predecessor left.
use Rattle.std.proofs.Common.{vec_items, arith}
use Rattle.office.proofs.Ways.{come_more, come_all}
use Rattle.office.proofs.running.run_acts.Goals as goal

pub loop-act-preserved : goal.loop-act-preserved
loop-act-preserved c =
    come_more _ c.args.acts.now c.loop-act.act-index _ _ _ _ _ _ c.loop-act-test.true c.act-item.is c.in_ok-push.ensures.items c.loop-act.invariant
    c.in_ok-perform.ensures.acted

pub returns : goal.returns
returns c =
    come_all c.args.sheet c.args.acts.now c.loop-act.act-index (vec_items c.loop-act.answers) c.loop-act.sheet c.loop-act-test.false (omega arith) c.loop-act.invariant
