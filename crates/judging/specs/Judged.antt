-- What is told of a list of amounts under a rule.
use Rattle.std.specs.Prelude.{ℕ, Bool, cond, List, length, Ok, Err, sum, Result}
use Rattle.std.specs.Result.{result_and}
use Rattle.refusals.specs.declared.Refusal.{Refusal}
use Rattle.refusals.specs.declared.Refusal.TheVariants.{RuleRange}
use Rattle.rules.specs.Largest.{nth_largest, n_largest}
use Rattle.rules.specs.Needs.{p_need, p_range, nk_need, nk_range, remainder}
use Rattle.rules.specs.Telling.{told_all}
use Rattle.settings.specs.declared.choices.RuleSetting.{RuleSetting}
use Rattle.settings.specs.declared.choices.RuleSetting.TheVariants.{P as ask_p, Nk as ask_nk}
use Rattle.judging.specs.declared.Judgement.{Judgement}
use Rattle.judging.specs.declared.Judgement.TheVariants.{P, Nk}

abbrev pub within : Bool → Result (Unit {0}) Refusal
within b = cond b (Ok tt) (Err RuleRange)

-- a rule outside its range is refused first, then the first amount that cannot be told
abbrev pub judged : RuleSetting → List ℕ → Result Judgement Refusal
judged (ask_p p) xs = result_and (within (p_range p)) (result_and (told_all 0 xs)
    (Ok (P p (length xs) (sum xs) (nth_largest 0 xs) (nth_largest 1 xs) (remainder xs) (p_need p xs))))
judged (ask_nk n k) xs = result_and (within (nk_range n k)) (result_and (told_all 0 xs)
    (Ok (Nk n k (length xs) (sum xs) (n_largest n xs) (nk_need n k xs))))
