-- Where a cell of a grid stands.
use Rattle.std.specs.Prelude.{ℕ, Option, nat_lt}
use Rattle.layouts.specs.declared.grid.Place.{Place}
use Rattle.layouts.specs.declared.grid.Place.TheVariants.{Inside, RowTotal, ColumnTotal, GrandTotal}
use Rattle.layouts.specs.Answers.{only}
use Rattle.layouts.specs.Layouts.{grid, by, row, column}

abbrev pub place_of : ℕ → ℕ → ℕ → Option Place
place_of R C k = only (nat_lt k (grid R C).cells) (by R C k (Inside (row R C k) (column R C k)) (RowTotal (row R C k)) (ColumnTotal (column R C k)) GrandTotal)
