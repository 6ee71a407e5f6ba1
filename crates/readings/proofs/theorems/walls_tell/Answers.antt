-- Walls tell which cells are exposed.
use Rattle.readings.proofs.Walls.{walls_tell_lem}
use Rattle.readings.proofs.theorems.walls_tell.Goals as goal

pub returns : goal.returns
returns c = walls_tell_lem
