-- Up to here every amount was accepted, and the rule stands for them.
use Rattle.std.proofs.Common.{◌≡◌, ℕ, List, ◌++◌, take, drop}
use Rattle.rules.specs.Telling.{told_all, accepted}
use Rattle.rules.proofs.need_of.Given as goal

abbrev pub invariant-loop-amount : goal.invariant-loop-amount
invariant-loop-amount g l =
    let m = g.R.Rule in
    m.stands l.rule (take l.amount-index l.amounts)
    × ((xs : List ℕ) → m.meaning l.rule xs ≡ m.meaning l.initial.rule xs)
    × (told_all 0 l.amounts ≡ told_all l.amount-index (drop l.amount-index l.amounts))
    × (accepted 0 l.amounts ≡ take l.amount-index l.amounts ++ accepted l.amount-index (drop l.amount-index l.amounts))
