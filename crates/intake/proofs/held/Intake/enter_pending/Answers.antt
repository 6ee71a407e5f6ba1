-- Each is at a leaf, within the largest amount.
use Rattle.std.proofs.Common.{◌++◌, vec_items, sym, ap, ◌∙◌, subst, arith}
use Rattle.std.proofs.lemmas.List.{take_all}
use Rattle.layouts.specs.Admission.{shape_of}
use Rattle.layouts.proofs.Kept.{leaf_below, network_cells}
use Rattle.intake.specs.Chains.{held}
use Rattle.intake.specs.Walks.{Good}
use Rattle.intake.proofs.Goods.{good_at, leafy_after}
use Rattle.intake.proofs.held.Intake.enter_pending.Goals as goal

pub append-requires-clause-inside : goal.append-requires-clause-inside
append-requires-clause-inside g c =
    let s = c.args.self.now in
    let sh = shape_of s.network in
    let good = good_at sh _ (subst (Good sh) (sym c.deref-x-items.ensures.value) c.requires.good) c.loop-x.x-index (record { leaf = 0; company = 0; amount = 0 }) c.loop-x-test.true in
    omega (arith, leaf_below sh _ good.0, network_cells s.network, s.celled.0, c.loop-x.invariant.1)

pub append-requires-clause-small : goal.append-requires-clause-small
append-requires-clause-small g c =
    let sh = shape_of c.args.self.now.network in
    (good_at sh _ (subst (Good sh) (sym c.deref-x-items.ensures.value) c.requires.good) c.loop-x.x-index (record { leaf = 0; company = 0; amount = 0 }) c.loop-x-test.true).1

pub invariant_of-self-clause-leafy : goal.invariant_of-self-clause-leafy
invariant_of-self-clause-leafy g c =
    let s = c.args.self.now in
    let xs = held (vec_items s.chains.records) in
    leafy_after (shape_of s.network) s.chains.records c.loop-x.chains.records (vec_items s.pending) s.leafy c.requires.good
    (c.loop-x.invariant.0 ∙ ap (λ t. xs ++ t) (take_all c.loop-x.x-index _ c.loop-x-test.false ∙ c.deref-x-items.ensures.value))
