-- A layout's text stands under the word grid or the word list.
use Rattle.std.proofs.Common.{rules, refl}
use Rattle.settings.specs.Reading.{NumberWrong, PairWrong}
use Rattle.settings.proofs.Words.{under_none, under_some, under_grid, under_list}
use Rattle.settings.proofs.read_layout.Goals as goal

pub returns-in_err-rows-in-103 : goal.returns-in_err-rows-in-103
returns-in_err-rows-in-103 c =
    under_none under_grid c.args.bytes.now (search rules) (search rules) c.read_pair.result (PairWrong 9999) c.read_pair.ensures c.in_err-rows-in-103.ensures.value _ c.from_residual.ensures

pub returns-in_ok-rows-in-103 : goal.returns-in_ok-rows-in-103
returns-in_ok-rows-in-103 c =
    under_some under_grid c.args.bytes.now (search rules) (search rules) c.read_pair.result (PairWrong 9999) c.read_pair.ensures _ _ c.in_ok-rows-in-103.ensures.value _ refl

pub returns-in_err-leaves-in-108 : goal.returns-in_err-leaves-in-108
returns-in_err-leaves-in-108 c =
    under_none under_list c.args.bytes.now (search rules) (search rules) c.read_number.result (NumberWrong 9999) c.read_number.ensures c.in_err-leaves-in-108.ensures.value _ c.from_residual-in_err-leaves-in-108.ensures

pub returns-in_ok-leaves-in-108 : goal.returns-in_ok-leaves-in-108
returns-in_ok-leaves-in-108 c =
    under_some under_list c.args.bytes.now (search rules) (search rules) c.read_number.result (NumberWrong 9999) c.read_number.ensures _ _ c.in_ok-leaves-in-108.ensures.value _ refl
