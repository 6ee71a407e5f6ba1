-- A search goes on by the cell that was found, and is closed where a whole round finds none.
use Rattle.std.proofs.Common.{◌≡◌, ◌≤◌, length, Some, None, Option, not, replicate, sym, refl, ap, ◌∙◌, subst, arith}
use Rattle.std.proofs.lemmas.List.{length-set}
use Rattle.layouts.specs.Admission.{shape_of}
use Rattle.layouts.specs.declared.memory.Reach.{Reach}
use Rattle.readings.specs.Paths.{at, layer_in, next_cell, reached, via_in, withheld_by}
use Rattle.readings.proofs.Networks.{network_sound}
use Rattle.readings.proofs.Reaching.{begun, reached_room, reached_more, explored_shut, ranked_reached, way_none}
use Rattle.readings.proofs.paths.Search.run.Goals as goal

-- nothing but none is a clone of none
none_alone : (C : Option Reach → Type 0) → ((w : Reach) → C (Some w) → ⊥) → (o : Option Reach) → C o → o ≡ None
none_alone C never None h = refl
none_alone C never (Some w) h = absurd (never w h)

pub loop-reached-init : goal.loop-reached-init
loop-reached-init c =
    begun c.args.self.now.network.now.relations c.args.start (record { layer = 0; via = 0 }) (omega arith) refl _ _ _ _ refl c.fill.new.self
    (c.fill.ensures.after (none_alone _ (λ w h. h)) ∙ ap (λ n. replicate n None) c.requires.0)

pub loop-reached-smaller-in-Some : goal.loop-reached-smaller-in-Some
loop-reached-smaller-in-Some c =
    let n = c.args.self.now.network.now in
    let long : n.relations ≤ length c.loop-reached.reached = omega (arith, length-set {A = Option Reach}) in
    omega (
      arith,
      reached_room (shape_of n) c.args.self.now.side (withheld_by c.args.self.now.covers.now) (at c.args.self.now.table.now) c.args.self.now.amount c.args.start
          c.loop-reached.reached c.loop-reached.count c.loop-reached.from c.in-Some.cell c.far_end-next.result (network_sound n) long
          c.loop-reached.invariant.1 c.loop-reached.invariant.0 c.in-Some.ensures.first c.far_end-next.ensures.end,
    )

pub loop-reached-preserved-in-Some : goal.loop-reached-preserved-in-Some
loop-reached-preserved-in-Some c =
    let n = c.args.self.now.network.now in
    let long : n.relations ≤ length c.loop-reached.reached = omega (arith, length-set {A = Option Reach}) in
    reached_more (shape_of n) c.args.self.now.side (withheld_by c.args.self.now.covers.now) (at c.args.self.now.table.now) c.args.self.now.amount c.args.start
    c.loop-reached.reached c.loop-reached.count c.loop-reached.from c.in-Some.cell c.far_end-next.result (network_sound n) long
    c.loop-reached.invariant.1 c.loop-reached.invariant.0 c.in-Some.ensures.first c.far_end-next.ensures.end

pub returns-then-from-eq0 : goal.returns-then-from-eq0
returns-then-from-eq0 c =
    let n = c.args.self.now.network.now in
    let ways = c.loop-reached.reached in
    explored_shut (shape_of n) c.args.self.now.side (withheld_by c.args.self.now.covers.now) (at c.args.self.now.table.now) c.args.self.now.amount c.args.start c.args.goal
    (layer_in n.relations ways) (via_in ways) c.loop-reached.count c.loop-reached.invariant.0
    (way_none n.relations ways c.args.goal (c.is_none.ensures ∙ ap not c.loop-reached-test.true))
    (sym (subst (λ i. None ≡ next_cell (shape_of n) c.args.self.now.side (withheld_by c.args.self.now.covers.now) (at c.args.self.now.table.now) c.args.self.now.amount (reached n.relations (layer_in n.relations ways)) i) c.if-from-eq0.true
    (subst (λ R. None ≡ next_cell (shape_of n) c.args.self.now.side (withheld_by c.args.self.now.covers.now) (at c.args.self.now.table.now) c.args.self.now.amount R c.loop-reached.from) (ranked_reached n.relations ways c.loop-reached.invariant.1) c.in-None.ensures.first)))
