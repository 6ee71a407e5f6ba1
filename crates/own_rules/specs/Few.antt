-- The need of an association's own rule: with fewer than three contributors, the whole sum.
use Rattle.std.specs.Prelude.{ℕ, cond, List, length, sum, nat_lt}

abbrev pub few_need : List ℕ → ℕ
few_need xs = cond (nat_lt (length xs) 3) (sum xs) 0
