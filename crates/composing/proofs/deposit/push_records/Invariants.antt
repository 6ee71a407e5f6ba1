-- With the records of the contributions left, the numbers so far are all of them.
use Rattle.std.proofs.Common.{◌≡◌, ◌+◌, ◌++◌, length, drop, vec_items}
use Rattle.composing.specs.Deposit.{records}
use Rattle.composing.proofs.deposit.push_records.Given as goal

abbrev pub invariant-loop-x : goal.invariant-loop-x
invariant-loop-x l =
    vec_items l.numbers ++ records (length l.yielded + 1) (drop (length l.yielded) l.contributions) ≡ vec_items l.initial.numbers ++ records 1 l.contributions
