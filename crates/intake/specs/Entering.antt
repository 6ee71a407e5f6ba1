-- What entering a contribution answers.
use Rattle.std.specs.Prelude.{ℕ, ◌+◌, cond, not, List, length, Ok, Err, Result, nat_le}
use Rattle.std.specs.Result.{result_and}
use Rattle.refusals.specs.declared.Refusal.{Refusal}
use Rattle.refusals.specs.declared.Refusal.TheVariants.{UnknownCell, NotALeaf}
use Rattle.layouts.specs.Shape.{Shape}
use Rattle.layouts.specs.declared.memory.Contribution.{Contribution}
use Rattle.rules.specs.Telling.{verdict}

-- how many are held then, or the first refusal in the order of their numbers; the amount is told as to a rule
abbrev pub enter_answer : Shape → List Contribution → Contribution → Result ℕ Refusal
enter_answer s xs x =
    cond (nat_le s.cells x.leaf) (Err (UnknownCell x.leaf))
    (cond (not (s.leaf x.leaf)) (Err (NotALeaf x.leaf))
    (result_and (verdict x.leaf x.amount (length xs)) (Ok (length xs + 1))))
