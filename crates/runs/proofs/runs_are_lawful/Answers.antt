use Rattle.runs.proofs.Lawful.{every_run_is_lawful}
use Rattle.runs.proofs.runs_are_lawful.Goals as goal

pub returns : goal.returns
returns c = every_run_is_lawful
