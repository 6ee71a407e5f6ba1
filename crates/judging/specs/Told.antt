-- What is told of a judgement.
use Rattle.std.specs.Prelude.{ℕ, cond, List, ◌++◌, codes, decimal, nat_lt}
use Rattle.judging.specs.declared.Judgement.{Judgement}
use Rattle.judging.specs.declared.Judgement.TheVariants.{P, Nk}

-- whether there is a need, and why
abbrev pub verdict_text : ℕ → List ℕ → List ℕ
verdict_text need since =
    cond (nat_lt 0 need) ((codes "sensitive: yes, since " ++ (since ++ codes "\n")) ++ (codes "need: " ++ decimal need)) (codes "sensitive: no")

-- how many amounts there are, and their sum
abbrev pub amounts_text : ℕ → ℕ → List ℕ
amounts_text count total = codes "amounts: " ++ (decimal count ++ (codes ", in all T = " ++ (decimal total ++ codes "\n")))

abbrev pub told : Judgement → List ℕ
told (P percent count total largest second remainder need) =
    (codes "rule: p-percent with P " ++ (decimal percent ++ codes "\n"))
    ++ (amounts_text count total
    ++ ((codes "the largest L = " ++ (decimal largest ++ (codes ", the second largest S = " ++ (decimal second ++ codes "\n"))))
    ++ ((codes "the remainder T - L - S = " ++ (decimal remainder ++ codes "\n"))
    ++ verdict_text need (codes "100 x remainder is below P x L"))))
told (Nk n k count total of_largest need) =
    (codes "rule: (n,k) with N " ++ (decimal n ++ (codes " and K " ++ (decimal k ++ codes "\n"))))
    ++ (amounts_text count total
    ++ ((codes "the " ++ (decimal n ++ (codes " largest together X = " ++ (decimal of_largest ++ codes "\n"))))
    ++ verdict_text need (codes "100 x X is above K x T")))
