-- Every line is short.
use Rattle.settings.proofs.Lines.{short_line}
use Rattle.settings.proofs.read_settings.Goals as goal

pub returns-clause-short : goal.returns-clause-short
returns-clause-short c = short_line
