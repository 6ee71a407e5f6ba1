-- The marks of a table's cells.
use Rattle.std.specs.Prelude.{ℕ, cond, List, map, nat_lt, slice_index_or}
use Rattle.layouts.specs.declared.memory.Row.{Row}
use Rattle.layouts.specs.declared.memory.Mark.{Mark}
use Rattle.layouts.specs.declared.memory.Mark.TheVariants.{Open, Sensitive}

abbrev pub mark_at : List Row → ℕ → Mark
mark_at rows c = slice_index_or (map (λ r. r.mark) rows) c Open

-- the mark that a cell has once it is settled
abbrev pub first_mark : ℕ → Mark
first_mark need = cond (nat_lt 0 need) Sensitive Open
