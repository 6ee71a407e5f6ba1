-- What acts and answers stand for, and the history that they make.
use Rattle.std.specs.Prelude.{List, [], ◌∷◌, Ok, Err, Result, vec_items}
use Rattle.refusals.specs.declared.Refusal.{Refusal}
use Rattle.runs.specs.Acts as runs
use Rattle.runs.specs.Acts.{withhold, seek, print, witness, refused, count, page, table}
use Rattle.runs.specs.Runs.{History}
use Rattle.office.specs.declared.acts.Act.{Act}
use Rattle.office.specs.declared.acts.Act.TheVariants.{Withhold, Search, Print, Witness}
use Rattle.office.specs.declared.acts.Answer.{Answer}
use Rattle.office.specs.declared.acts.Answer.TheVariants.{Count, Page, Table}

abbrev pub act_of : Act → runs.Act
act_of (Withhold cells) = withhold (vec_items cells)
act_of Search = seek
act_of (Print memory) = print memory
act_of (Witness cell side memory) = witness cell side memory

abbrev pub answer_of : Result Answer Refusal → runs.Answer
answer_of (Err r) = refused r
answer_of (Ok (Count n)) = count n
answer_of (Ok (Page bytes)) = page (vec_items bytes)
answer_of (Ok (Table figures)) = table (vec_items figures)

-- the history h, and after it these acts with these answers
abbrev pub gone_on : History → List Act → List (Result Answer Refusal) → History
gone_on h [] answers = h
gone_on h (act ∷ acts) [] = h
gone_on h (act ∷ acts) (a ∷ answers) = gone_on ((act_of act, answer_of a) ∷ h) acts answers

-- each act with its answer, the latest first
abbrev pub history : List Act → List (Result Answer Refusal) → History
history = gone_on []
