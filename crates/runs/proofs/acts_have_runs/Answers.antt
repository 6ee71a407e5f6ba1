use Rattle.runs.proofs.Exist.{every_list_runs}
use Rattle.runs.proofs.acts_have_runs.Goals as goal

pub returns : goal.returns
returns c = every_list_runs
