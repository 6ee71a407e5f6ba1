-- The library asks the same of the slice.
use Rattle.std.proofs.Common.{◌∙◌}
use Rattle.sums.proofs.Among.{any_among}
use Rattle.sums.proofs.is_among.Goals as goal

pub returns : goal.returns
returns c = c.contains.ensures.value ∙ any_among c.args.number c.args.places.now
