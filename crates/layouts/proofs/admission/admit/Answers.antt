-- The memory fits the network, and want of it is the only refusal within the limits.
use Rattle.std.proofs.Common.{◌≡◌, vec_len, sym, ◌∙◌, subst}
use Rattle.layouts.specs.Blank.{Fresh}
use Rattle.layouts.proofs.Kept.{network_cells}
use Rattle.layouts.proofs.admission.admit.Goals as goal

pub invariant_of-result : goal.invariant_of-result
invariant_of-result g c =
    let s = g.L.Layout.shape c.args.layout.now in
    let n = c.in_ok-network.network in
    let m = c.in_ok-memory.memory in
    let same = c.in_ok-network.ensures in
    let cells : c.cells.result ≡ vec_len n.edges = c.cells.ensures ∙ sym same.cells ∙ network_cells n in
    let relations : c.relations.result ≡ n.relations = c.relations.ensures ∙ sym same.relations in
    record { fresh = subst (λ k. Fresh k n.relations m) cells (subst (λ k. Fresh c.cells.result k m) relations c.in_ok-memory.ensures) }
