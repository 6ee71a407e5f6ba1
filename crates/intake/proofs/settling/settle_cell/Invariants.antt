-- What was told so far and the chains of the leaves to come make up all that is under the cell.
use Rattle.std.proofs.Common.{◌≡◌, ℕ, ◌-◌, ◌*◌, ◌≤◌, List, ◌++◌, length, sum, vec_items, vec_len}
use Rattle.layouts.specs.Admission.{shape_of}
use Rattle.intake.specs.Chains.{amount_list, chains_from, held, leaf_list}
use Rattle.intake.proofs.settling.settle_cell.Given as goal

abbrev pub invariant-loop-leaf : goal.invariant-loop-leaf
invariant-loop-leaf g l =
    let m = g.R.Rule in
    let rs = vec_items l.chains.records in
    let k = vec_len l.network.edges in
    let under = chains_from ((shape_of l.network).counts l.cell) (leaf_list (held rs)) (amount_list (held rs)) (length rs) in
    (l.figure ≤ l.leaf * 2048000000000)
    × ((xs : List ℕ) → m.meaning l.rule xs ≡ m.meaning l.initial.rule xs)
    × ((told : List ℕ) × (under 0 k ≡ told ++ under l.leaf (k - l.leaf)) × (l.figure ≡ sum told) × m.stands l.rule told)
