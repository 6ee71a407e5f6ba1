-- The counts, the heads and the records, one after another.
use Rattle.std.proofs.Common.{◌≡◌, ℕ, List, arith, rules}
use Rattle.std.proofs.lemmas.List.FromFn.{fill_by_all}
use Rattle.layouts.specs.declared.memory.Contribution.{Contribution}
use Rattle.composing.specs.Deposit.{first_of, heads, Chained}
use Rattle.composing.proofs.Fitting.{each_fits}
use Rattle.composing.proofs.deposit.list_numbers.Goals as goal

heads_are : (cells : ℕ) (xs : List Contribution) (hs ns : List ℕ) → Chained cells xs hs ns → hs ≡ heads cells xs
heads_are cells xs hs ns k = fill_by_all (λ m. first_of m 1 xs) hs cells 0 k.many_heads (λ m h. k.linked.heads m (omega (arith, k.many_heads)))

pub push_records-requires-clause-fits : goal.push_records-requires-clause-fits
push_records-requires-clause-fits c = λ k h. omega (arith, (each_fits c.args.cells c.args.contributions.now c.requires k h).amount)

pub returns : goal.returns
returns c = let h = heads_are c.args.cells c.args.contributions.now _ _ c.in_ok-heads.ensures in search rules
