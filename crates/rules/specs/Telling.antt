-- When telling an amount is refused, and what a rule stands for then.
use Rattle.std.specs.Prelude.{ℕ, suc, cond, List, [], ◌∷◌, ◌++◌, Ok, Err, Result, nat_lt}
use Rattle.std.specs.Result.{result_and}
use Rattle.refusals.specs.declared.Refusal.{Refusal}
use Rattle.refusals.specs.declared.Refusal.TheVariants.{AmountTooLarge, TooManyContributions}

-- whether the amount a of the cell c is taken, after n amounts; a rule by itself knows no cell, and names 0
abbrev pub verdict : ℕ → ℕ → ℕ → Result (Unit {0}) Refusal
verdict c a n = cond (nat_lt 1000000000 a) (Err (AmountTooLarge c)) (cond (nat_lt n 2048) (Ok tt) (Err TooManyContributions))

-- a list once one more was given to it and the answer was r: the amounts that a rule stands for, or the contributions that are held
abbrev pub after : {R X : Type 0} → Result R Refusal → List X → X → List X
after (Ok _) xs x = xs ++ x ∷ []
after (Err _) xs x = xs

-- the first refusal in telling these amounts one after another, after n others
abbrev pub told_all : ℕ → List ℕ → Result (Unit {0}) Refusal
told_all n [] = Ok tt
told_all n (a ∷ rest) = result_and (verdict 0 a n) (told_all (suc n) rest)

abbrev pub where_accepted : Result (Unit {0}) Refusal → List ℕ → List ℕ
where_accepted (Ok _) xs = xs
where_accepted (Err _) xs = []

-- the amounts before the first that is refused
abbrev pub accepted : ℕ → List ℕ → List ℕ
accepted n [] = []
accepted n (a ∷ rest) = where_accepted (verdict 0 a n) (a ∷ accepted (suc n) rest)

-- what a rule with this meaning answers to the whole list
abbrev pub need_answer : (List ℕ → ℕ) → List ℕ → Result ℕ Refusal
need_answer meaning xs = result_and (told_all 0 xs) (Ok (meaning xs))
