-- The meaning of a layout of shops in districts, and the sizes that it may have.
use Rattle.std.specs.Prelude.{ℕ, ◌+◌, ◌-◌, ◌*◌, ◌/◌, Bool, cond, ◌&&◌, [], ◌∷◌, nat_lt}
use Rattle.sums.specs.Sums.{among}
use Rattle.layouts.specs.Shape.{Shape}
use Rattle.layouts.specs.Layouts.{between}

abbrev pub districts_size : ℕ → ℕ → Bool
districts_size D S = between 1 200 D && between 1 200 S

-- D districts of S shops each: the shops come first, district by district, then the districts' totals, then the total of all
module _ (D S : ℕ) where
  -- a choice by what a cell is: a shop, a district's total, or the total of all
  abbrev pub by : {X : Type 0} → ℕ → X → X → X → X
  by c shop district all = cond (nat_lt c (D * S)) shop (cond (nat_lt c (D * S + D)) district all)

  -- relation d < D is district d, relation D has the shops, relation D + 1 the districts' totals
  abbrev pub districts : Shape
  districts = record {
    cells = D * S + D + 1;
    relations = D + 2;
    leaf = λ c. nat_lt c (D * S);
    leaves = λ c. by c D (c - D * S) (D + 1);
    enters = λ c. by c (c / S) (D + 1) D;
    counts = λ c l. among c (l ∷ (D * S + l / S) ∷ (D * S + D) ∷ []);
  }
