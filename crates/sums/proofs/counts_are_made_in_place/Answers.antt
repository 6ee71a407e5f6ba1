-- The law is proved beside its lemmas.
use Rattle.sums.proofs.CountAmong.{count_among}
use Rattle.sums.proofs.counts_are_made_in_place.Goals as goal

pub returns : goal.returns
returns c = count_among
