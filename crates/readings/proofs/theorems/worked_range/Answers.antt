-- The range of the worked grid.
use Rattle.readings.proofs.Ends.{runs_from_0_to_220}
use Rattle.readings.proofs.theorems.worked_range.Goals as goal

pub returns : goal.returns
returns c = runs_from_0_to_220
