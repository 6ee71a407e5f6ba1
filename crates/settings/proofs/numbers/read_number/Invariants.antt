-- The digits so far write the number.
use Rattle.settings.proofs.Numerals.{Scanned}
use Rattle.settings.proofs.numbers.read_number.Given as goal

abbrev pub invariant-loop-i : goal.invariant-loop-i
invariant-loop-i l = Scanned l.greatest l.bytes l.i l.number
