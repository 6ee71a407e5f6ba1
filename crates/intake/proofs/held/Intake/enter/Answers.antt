-- The new record is at a leaf.
use Rattle.std.proofs.Common.{◌≡◌, ℕ, ◌<◌, true, ltb, List, [], ◌∷◌, length, get_or, vec_items, ap, ◌∙◌, arith}
use Rattle.std.proofs.lemmas.Bool.{and_from, lt-ltb}
use Rattle.std.proofs.lemmas.Bool.Decides.{nat_tests}
use Rattle.layouts.specs.Admission.{shape_of}
use Rattle.layouts.specs.Shape.{is_leaf}
use Rattle.layouts.specs.declared.network.Edge.{Edge}
use Rattle.layouts.specs.declared.network.Network.{Network}
use Rattle.intake.proofs.Deposits.{leaf_of_edge}
use Rattle.intake.proofs.Goods.{leafy_after}
use Rattle.intake.proofs.held.Intake.enter.Goals as goal

-- what was read of the cell's edge
leaf_found : (n : Network) (es : List Edge) (l : ℕ) (e : Edge) → es ≡ vec_items n.edges → (l < length es) × ((d : Edge) → e ≡ get_or es l d) → e.leaf ≡ true → is_leaf (shape_of n) l ≡ true
leaf_found n es l e all at leaf =
    and_from (ltb l (shape_of n).cells) ((shape_of n).leaf l) (lt-ltb l (shape_of n).cells (omega (arith, ap length all))) (leaf_of_edge n es l e all at.0 (at.1 e) ∙ leaf)

pub invariant_of-self-clause-leafy : goal.invariant_of-self-clause-leafy
invariant_of-self-clause-leafy g c =
    let s = c.args.self.now in
    let leaf = leaf_found s.network _ c.args.x.leaf c.in-Some.edge.now c.deref.ensures.value c.in-Some.ensures.lookup.3 c.if-not-edge.false in
    leafy_after (shape_of s.network) s.chains.records c.append.new.self.records (c.args.x ∷ []) s.leafy (leaf, grind (arith, nat_tests, c.in_ok-verdict.ensures), tt) c.append.ensures.held
