-- A rule's text stands under the word p or the word nk.
use Rattle.std.proofs.Common.{rules, ap}
use Rattle.settings.specs.declared.choices.RuleSetting.TheVariants.{P}
use Rattle.settings.specs.Reading.{NumberWrong, PairWrong}
use Rattle.settings.proofs.Words.{under_none, under_some, under_p, under_nk}
use Rattle.settings.proofs.read_rule.Goals as goal

pub returns-in_ok-percent-in-112 : goal.returns-in_ok-percent-in-112
returns-in_ok-percent-in-112 c =
    under_some under_p c.args.bytes.now (search rules) (search rules) c.read_number.result (NumberWrong 9999) c.read_number.ensures _ _ c.in_ok-percent-in-112.ensures.value _ (ap P c.from-in-112.ensures)

pub returns-in_err-n-in-110 : goal.returns-in_err-n-in-110
returns-in_err-n-in-110 c =
    under_none under_nk c.args.bytes.now (search rules) (search rules) c.read_pair.result (PairWrong 9999) c.read_pair.ensures c.in_err-n-in-110.ensures.value _ c.from_residual.ensures

pub returns-in_ok-n-in-110 : goal.returns-in_ok-n-in-110
returns-in_ok-n-in-110 c =
    under_some under_nk c.args.bytes.now (search rules) (search rules) c.read_pair.result (PairWrong 9999) c.read_pair.ensures _ _ c.in_ok-n-in-110.ensures.value _ cc
