-- A worked table, grid A: two rows and two columns, of which the four inner cells are withheld.
use Rattle.std.specs.Prelude.{◌≡◌, ℕ, ◌≤◌, Bool, List, [], ◌∷◌, slice_index}
use Rattle.sums.specs.Sums.{among}
use Rattle.layouts.specs.Shape.{Shape}
use Rattle.layouts.specs.Layouts.{grid}
use Rattle.readings.specs.Readings.{Reading}

abbrev pub grid_a : Shape
grid_a = grid 2 2

-- a table from its lines
abbrev pub table : List ℕ → ℕ → ℕ
table xs c = slice_index xs c

abbrev pub figures_a : ℕ → ℕ
figures_a = table (200 ∷ 20 ∷ 220 ∷ 100 ∷ 300 ∷ 400 ∷ 300 ∷ 320 ∷ 620 ∷ [])

-- the sensitive cell 0 and the complements 1, 3 and 4
abbrev pub withheld_a : ℕ → Bool
withheld_a c = among c (0 ∷ 1 ∷ 3 ∷ 4 ∷ [])

abbrev pub lowest_a : ℕ → ℕ
lowest_a = table (0 ∷ 220 ∷ 220 ∷ 300 ∷ 100 ∷ 400 ∷ 300 ∷ 320 ∷ 620 ∷ [])

abbrev pub highest_a : ℕ → ℕ
highest_a = table (220 ∷ 0 ∷ 220 ∷ 80 ∷ 320 ∷ 400 ∷ 300 ∷ 320 ∷ 620 ∷ [])

-- The readings of cell 0 run from 0 to 220: both ends are attained, and none lies beyond.
pub record RunsFrom0To220 : Type 0 where
  pub lowest : Reading grid_a withheld_a figures_a lowest_a
  pub lowest_is : lowest_a 0 ≡ 0
  pub highest : Reading grid_a withheld_a figures_a highest_a
  pub highest_is : highest_a 0 ≡ 220
  pub none_beyond : (y : ℕ → ℕ) → Reading grid_a withheld_a figures_a y → y 0 ≤ 220
