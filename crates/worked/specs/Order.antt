-- The order of the contributions makes no difference to any figure, nor to any need by a rule that takes amounts in any order.
use Rattle.std.specs.Prelude.{◌≡◌, ℕ, List}
use Rattle.std.specs.List.Sorted.{IsPermutation}
use Rattle.layouts.specs.Shape.{Shape}
use Rattle.layouts.specs.declared.memory.Contribution.{Contribution}
use Rattle.intake.specs.Contributions.{amounts_under, figure_of, need_of}

-- the meaning of a rule that takes amounts in any order
abbrev pub AnyOrder : (List ℕ → ℕ) → Type 0
AnyOrder meaning = (xs ys : List ℕ) → IsPermutation xs ys → meaning ys ≡ meaning xs

-- ys are the contributions xs in another order.
pub record OrderIsFree : Type 0 where
  pub amounts : (s : Shape) (xs ys : List Contribution) (c : ℕ) → IsPermutation xs ys → IsPermutation (amounts_under s xs c) (amounts_under s ys c)
  pub figures : (s : Shape) (xs ys : List Contribution) (c : ℕ) → IsPermutation xs ys → figure_of s ys c ≡ figure_of s xs c
  pub needs : (s : Shape) (meaning : List ℕ → ℕ) → AnyOrder meaning → (xs ys : List Contribution) (c : ℕ) → IsPermutation xs ys
      → need_of s meaning ys c ≡ need_of s meaning xs c
