-- Each turn puts one contribution in front of its leaf's chain.
use Rattle.std.proofs.Common.{rules, length, arith}
use Rattle.composing.proofs.Numbers.{leaf_within, linking_more}
use Rattle.composing.proofs.deposit.link.Goals as goal

pub bounds-heads-x : goal.bounds-heads-x
bounds-heads-x c = let w = leaf_within c.loop-i.invariant.1 _ _ c.in-Some.ensures.steps.1.0 (length c.args.heads.now) c.requires.fits in omega arith

pub offset_bounds-heads-x : goal.offset_bounds-heads-x
offset_bounds-heads-x c = let w = leaf_within c.loop-i.invariant.1 _ _ c.in-Some.ensures.steps.1.0 (length c.args.heads.now) c.requires.fits in search rules

pub loop-i-preserved : goal.loop-i-preserved
loop-i-preserved c =
    let s = c.in-Some.ensures.steps in
    let w = leaf_within c.loop-i.invariant.1 _ _ s.1.0 (length c.args.heads.now) c.requires.fits in
    (omega arith, linking_more c.loop-i.invariant.1 _ _ s.1.0 (omega arith) (omega arith) _ _ _ (omega arith) c.replace.ensures.after c.replace.ensures.value)
