-- A wall stays one where less is withheld.
use Rattle.readings.proofs.Walls.{walls_stay_lem}
use Rattle.readings.proofs.theorems.walls_stay.Goals as goal

pub returns : goal.returns
returns c = walls_stay_lem
