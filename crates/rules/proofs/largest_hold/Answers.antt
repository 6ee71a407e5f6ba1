-- Both facts are lemmas.
use Rattle.rules.proofs.Falling.{descends}
use Rattle.rules.proofs.NeedLaws.{two_largest_le}
use Rattle.rules.proofs.largest_hold.Goals as goal

pub returns : goal.returns
returns c = record { descends = descends; within = two_largest_le }
