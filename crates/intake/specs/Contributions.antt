-- The amounts that are entered under a cell, its figure and its need.
use Rattle.std.specs.Prelude.{ℕ, Bool, cond, List, [], ◌∷◌, sum, nat_lt}
use Rattle.layouts.specs.Shape.{Shape}
use Rattle.layouts.specs.declared.memory.Contribution.{Contribution}

-- The amounts of the contributions whose leaf counts under the cell, in the order in which they were entered.
abbrev pub amounts_under : Shape → List Contribution → ℕ → List ℕ
amounts_under s [] c = []
amounts_under s (x ∷ xs) c = cond (s.counts c x.leaf) (x.amount ∷ amounts_under s xs c) (amounts_under s xs c)

abbrev pub figure_of : Shape → List Contribution → ℕ → ℕ
figure_of s xs c = sum (amounts_under s xs c)

-- by the meaning of a rule, which is a need for every list of amounts
abbrev pub need_of : Shape → (List ℕ → ℕ) → List Contribution → ℕ → ℕ
need_of s meaning xs c = meaning (amounts_under s xs c)

abbrev pub sensitive_of : Shape → (List ℕ → ℕ) → List Contribution → ℕ → Bool
sensitive_of s meaning xs c = nat_lt 0 (need_of s meaning xs c)
