-- The rows of a table as tables of their own: its figures and its needs.
use Rattle.std.specs.Prelude.{ℕ, List, map, slice_index}
use Rattle.layouts.specs.declared.memory.Row.{Row}
use Rattle.layouts.specs.Shape.{Shape}
use Rattle.readings.specs.Exposure.{Figures}

abbrev pub figures : List Row → ℕ → ℕ
figures rows c = slice_index (map (λ r. r.figure) rows) c

abbrev pub needs : List Row → ℕ → ℕ
needs rows c = slice_index (map (λ r. r.need) rows) c

-- what an audit looks at
abbrev pub looked_at : Shape → List Row → Figures
looked_at sh rows = record { shape = sh; figure = figures rows; need = needs rows }
