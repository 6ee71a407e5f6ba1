-- What was told so far and the chain from the link on make up the whole chain.
use Rattle.std.proofs.Common.{◌≡◌, ℕ, ◌+◌, ◌*◌, ◌≤◌, List, ◌++◌, length, sum, vec_items}
use Rattle.intake.specs.Chains.{amount_list, chain_amounts, chain_of, held, latest, leaf_list}
use Rattle.intake.proofs.Links.{up_to}
use Rattle.intake.proofs.chains.Chains.tell_chain.Given as goal

abbrev pub invariant-loop-link : goal.invariant-loop-link
invariant-loop-link g l =
    let m = g.R.Rule in
    let rs = vec_items l.self.records in
    let leaves = leaf_list (held rs) in
    let amounts = amount_list (held rs) in
    (up_to l.link ≤ length rs)
    × (latest l.leaf leaves (up_to l.link) ≡ l.link)
    × (l.sum + up_to l.link * 1000000000 ≤ length rs * 1000000000)
    × ((xs : List ℕ) → m.meaning l.rule xs ≡ m.meaning l.initial.rule xs)
    × ((told : List ℕ) × (chain_of rs l.leaf ≡ told ++ chain_amounts l.leaf leaves amounts (up_to l.link)) × (l.sum ≡ sum told)
    × ((xs : List ℕ) → m.stands l.initial.rule xs → length xs + length (chain_of rs l.leaf) ≤ 2048 → m.stands l.rule (xs ++ told)))

abbrev pub decreases-loop-link : goal.decreases-loop-link
decreases-loop-link g l = up_to l.link
