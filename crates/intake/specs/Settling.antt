-- What settling makes of the contributions.
use Rattle.std.specs.Prelude.{◌≡◌, ℕ, ◌<◌, Bool, true, ◌&&◌, List, vec_len, nat_lt}
use Rattle.layouts.specs.Admission.{shape_of}
use Rattle.layouts.specs.Shape.{Shape, is_leaf}
use Rattle.layouts.specs.Copied.{values}
use Rattle.layouts.specs.declared.memory.Contribution.{Contribution}
use Rattle.layouts.specs.declared.memory.Row.{Row}
use Rattle.layouts.specs.declared.network.Network.{Network}
use Rattle.readings.specs.Exposure.{any_below}
use Rattle.readings.specs.Rows.{needs}
use Rattle.intake.specs.Contributions.{figure_of, need_of}
use Rattle.intake.specs.Marks.{first_mark}

-- the row of the cell c
abbrev pub settled_row : Shape → (List ℕ → ℕ) → List Contribution → ℕ → Row
settled_row s meaning xs c = record {
  figure = figure_of s xs c;
  need = need_of s meaning xs c;
  mark = first_mark (need_of s meaning xs c);
}

abbrev pub settled_rows : Shape → (List ℕ → ℕ) → List Contribution → List Row
settled_rows s meaning xs = values s.cells (settled_row s meaning xs)

-- the leaf l counts under the cell c
abbrev pub is_under : Shape → ℕ → ℕ → Bool
is_under s c l = is_leaf s l && s.counts c l

-- under each cell with a need some leaf counts
abbrev pub Grounded : Network → List Row → Type 0
Grounded n rows =
    (c : ℕ) → c < vec_len n.edges → nat_lt 0 (needs rows c) ≡ true → any_below (vec_len n.edges) (is_under (shape_of n) c) ≡ true
