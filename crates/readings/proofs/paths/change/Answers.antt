-- Each cell of the path moves the end of the walk, and the tried cell closes the ring.
use Rattle.std.proofs.Common.{refl, ap, ◌∙◌, subst, arith}
use Rattle.layouts.specs.Admission.{shape_of}
use Rattle.readings.specs.Paths.{Came, at, layer_in, turned, via_of, withheld_by}
use Rattle.readings.proofs.Crossing.{turned_balanced, turned_sound}
use Rattle.readings.proofs.Networks.{network_sound}
use Rattle.readings.proofs.Reaching.{explored_at}
use Rattle.readings.proofs.Walking.{walk_start, walked_raise, walked_lower, walked_from, changed_in_Up, changed_in_Down, not_changed}
use Rattle.readings.proofs.paths.change.Goals as goal

pub returns-then-not-run : goal.returns-then-not-run
returns-then-not-run c =
    not_changed (shape_of c.args.network.now) c.args.side _ c.args.cell c.args.amount _ _ _ c.requires.balanced
    (explored_at _ _ _ _ _ _ _ _ _ _ _ c.ends-start.ensures.behind c.ends-start.ensures.ahead c.if-not-run.ensures)

pub loop-r-init : goal.loop-r-init
loop-r-init c = (
  walk_start _ _ _ _ _ _ (turned_balanced (shape_of c.args.network.now) c.args.side _ c.requires.balanced),
  c.ends-start.ensures.inside.1,
  c.if-not-run.ensures.goal_reached refl,
)

pub loop-r-preserved-then-ahead-r : goal.loop-r-preserved-then-ahead-r
loop-r-preserved-then-ahead-r c =
    let sh = turned (shape_of c.args.network.now) c.args.side in
    walked_raise sh _ _ _ _ _ c.loop-r.r c.unwrap-passed.result.via c.loop-r.table (turned_sound (shape_of c.args.network.now) c.args.side (network_sound c.args.network.now)) (omega arith)
    (subst (Came sh (withheld_by c.args.covers.now) (at c.args.table.now) c.args.amount (layer_in c.args.network.now.relations c.run.new.reached) c.loop-r.r) (ap via_of c.unwrap-passed.ensures)
    (c.if-not-run.ensures.tree c.loop-r.r c.loop-r.invariant.1 c.loop-r.invariant.2 c.loop-r-test.true)) c.loop-r.invariant.0 c.loop-r.invariant.2
    c.ends-behind.result.1 c.ends-behind.result.0 c.ends-behind.ensures.ahead c.ends-behind.ensures.behind c.if-ahead-r.true

pub loop-r-preserved : goal.loop-r-preserved
loop-r-preserved c =
    let sh = turned (shape_of c.args.network.now) c.args.side in
    walked_lower sh _ _ _ _ _ c.loop-r.r c.unwrap-passed.result.via c.loop-r.table (turned_sound (shape_of c.args.network.now) c.args.side (network_sound c.args.network.now)) (omega arith)
    (subst (Came sh (withheld_by c.args.covers.now) (at c.args.table.now) c.args.amount (layer_in c.args.network.now.relations c.run.new.reached) c.loop-r.r) (ap via_of c.unwrap-passed.ensures)
    (c.if-not-run.ensures.tree c.loop-r.r c.loop-r.invariant.1 c.loop-r.invariant.2 c.loop-r-test.true)) c.loop-r.invariant.0 c.loop-r.invariant.2
    c.ends-behind.result.1 c.ends-behind.result.0 c.ends-behind.ensures.ahead c.ends-behind.ensures.behind c.if-ahead-r.false

pub returns-in-Up : goal.returns-in-Up
returns-in-Up c =
    changed_in_Up (shape_of c.args.network.now) _ c.args.cell c.args.amount _ _ c.loop-r.table (omega arith) (omega arith) c.requires.barred
    c.args.side c.loop-r.r (walked_from _ _ _ _ _ _ _ _ _ c.ends-start.ensures.ahead c.loop-r.invariant.0) (c.loop-r-test.false ∙ c.ends-start.ensures.behind) c.in-Up.is

pub returns-in-Down : goal.returns-in-Down
returns-in-Down c =
    changed_in_Down (shape_of c.args.network.now) _ c.args.cell c.args.amount _ _ c.loop-r.table (omega arith) (omega arith) c.requires.barred
    c.args.side c.loop-r.r (walked_from _ _ _ _ _ _ _ _ _ c.ends-start.ensures.ahead c.loop-r.invariant.0) (c.loop-r-test.false ∙ c.ends-start.ensures.behind) c.in-Down.is c.requires.room
