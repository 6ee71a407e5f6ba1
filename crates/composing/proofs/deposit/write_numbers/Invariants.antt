-- The bytes so far are those of the numbers so far.
use Rattle.std.proofs.Common.{◌≡◌, take, vec_items}
use Rattle.std.specs.List.{flat_map}
use Rattle.composing.specs.Deposit.{number_bytes}
use Rattle.composing.proofs.deposit.write_numbers.Given as goal

abbrev pub invariant-loop-number : goal.invariant-loop-number
invariant-loop-number l = vec_items l.out ≡ flat_map number_bytes (take l.number-index l.numbers)
