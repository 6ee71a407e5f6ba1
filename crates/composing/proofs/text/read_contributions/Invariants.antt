-- The text is that of the contributions so far and then the rest, and every other reading of it begins with them.
use Rattle.std.proofs.Common.{length, vec_items}
use Rattle.composing.proofs.Lines.{Begun}
use Rattle.composing.proofs.text.read_contributions.Given as goal

abbrev pub invariant-loop-rest : goal.invariant-loop-rest
invariant-loop-rest l = Begun l.text (vec_items l.contributions) l.rest

abbrev pub decreases-loop-rest : goal.decreases-loop-rest
decreases-loop-rest l = length l.rest
