-- The worked tables, grid A and grid B: the figure and the need of every cell, from the contributions.
use Rattle.std.specs.Prelude.{◌≡◌, ℕ, ◌+◌, true, false, List, [], ◌∷◌, ◌++◌, map, replicate}
use Rattle.std.specs.List.{range_with_len}
use Rattle.layouts.specs.Layouts.{grid}
use Rattle.layouts.specs.Copied.{values}
use Rattle.layouts.specs.declared.memory.Contribution.{Contribution}
use Rattle.rules.specs.Needs.{p_need}
use Rattle.intake.specs.Contributions.{figure_of, need_of, sensitive_of}

-- the amounts of one leaf
abbrev pub of_leaf : ℕ → List ℕ → List (ℕ × ℕ)
of_leaf l = map (λ a. (l, a))

-- a company of its own for each leaf and amount, numbered from n on
abbrev pub numbered : ℕ → List (ℕ × ℕ) → List Contribution
numbered n [] = []
numbered n (p ∷ ps) = record { leaf = p.0; company = n; amount = p.1 } ∷ numbered (n + 1) ps

-- a table of two rows and two columns, with n companies of amount 1 in cell 1
abbrev pub entered : ℕ → List Contribution
entered n = numbered 1
    (of_leaf 0 (150 ∷ 40 ∷ 10 ∷ [])
    ++ of_leaf 1 (replicate n 1)
    ++ of_leaf 3 (replicate 4 25)
    ++ of_leaf 4 (replicate 4 75))

abbrev pub grid_a : List Contribution
grid_a = entered 20

abbrev pub grid_b : List Contribution
grid_b = entered 19

-- what nine cells have under the p-percent rule with P 20, from cell 0 on
module _ (xs : List Contribution) where
  abbrev pub figures : List ℕ
  figures = values 9 (figure_of (grid 2 2) xs)

  abbrev pub needs : List ℕ
  needs = values 9 (need_of (grid 2 2) (p_need 20) xs)

-- In grid A cell 0 alone is sensitive. With one company fewer in cell 1, in grid B, the total of its row is too.
pub record WorkedTables : Type 0 where
  pub companies_a : map (λ x. x.company) grid_a ≡ range_with_len 1 31
  pub figures_a : figures grid_a ≡ 200 ∷ 20 ∷ 220 ∷ 100 ∷ 300 ∷ 400 ∷ 300 ∷ 320 ∷ 620 ∷ []
  pub needs_a : needs grid_a ≡ 20 ∷ 0 ∷ 0 ∷ 0 ∷ 0 ∷ 0 ∷ 0 ∷ 0 ∷ 0 ∷ []
  pub sensitive_a : values 9 (sensitive_of (grid 2 2) (p_need 20) grid_a) ≡ true ∷ replicate 8 false
  pub companies_b : map (λ x. x.company) grid_b ≡ range_with_len 1 30
  pub figures_b : figures grid_b ≡ 200 ∷ 19 ∷ 219 ∷ 100 ∷ 300 ∷ 400 ∷ 300 ∷ 319 ∷ 619 ∷ []
  pub needs_b : needs grid_b ≡ 20 ∷ 0 ∷ 1 ∷ 0 ∷ 0 ∷ 0 ∷ 0 ∷ 0 ∷ 0 ∷ []
  pub sensitive_b : values 9 (sensitive_of (grid 2 2) (p_need 20) grid_b) ≡ true ∷ false ∷ true ∷ replicate 6 false
