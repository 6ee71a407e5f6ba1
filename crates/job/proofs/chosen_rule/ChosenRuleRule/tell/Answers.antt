-- The rule inside is told.
use Rattle.std.proofs.Common.{subst}
use Rattle.job.specs.Chosen.{ToldOf}
use Rattle.job.proofs.chosen_rule.ChosenRuleRule.tell.Goals as goal

pub returns-in-P-clause-refused : goal.returns-in-P-clause-refused
returns-in-P-clause-refused c xs h = c.tell.ensures.refused xs (subst (λ r. ToldOf r xs) c.in-P.is h)

pub returns-in-Nk-clause-refused : goal.returns-in-Nk-clause-refused
returns-in-Nk-clause-refused c xs h = c.tell-in-Nk.ensures.refused xs (subst (λ r. ToldOf r xs) c.in-Nk.is h)

pub returns-in-Nk-clause-stands : goal.returns-in-Nk-clause-stands
returns-in-Nk-clause-stands c xs h = c.tell-in-Nk.ensures.stands xs (subst (λ r. ToldOf r xs) c.in-Nk.is h)
