-- The contributions that are left come before those that are linked.
use Rattle.std.proofs.Common.{◌≡◌}
use Rattle.composing.proofs.Numbers.{Linking}
use Rattle.composing.proofs.deposit.link.Given as goal

abbrev pub invariant-loop-i : goal.invariant-loop-i
invariant-loop-i l = (l.i-iterator.iter.count ≡ 0) × Linking l.contributions l.i-iterator.iter.iter.rest.now l.heads l.nexts
