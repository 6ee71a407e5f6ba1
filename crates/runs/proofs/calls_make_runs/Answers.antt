use Rattle.runs.proofs.Calls.{calls_run}
use Rattle.runs.proofs.calls_make_runs.Goals as goal

pub returns : goal.returns
returns c = calls_run
