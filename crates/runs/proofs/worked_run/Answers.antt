use Rattle.runs.proofs.Worked.{worked_run_lem}
use Rattle.runs.proofs.worked_run.Goals as goal

pub returns : goal.returns
returns c = worked_run_lem
