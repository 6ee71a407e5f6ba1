-- When a row is the record of a cell.
use Rattle.std.specs.Prelude.{ℕ, Bool, false, not, ◌&&◌, List, nat_le, nat_lt, slice_index_or}
use Rattle.layouts.specs.Blank.{blank}
use Rattle.layouts.specs.declared.memory.Row.{Row}
use Rattle.layouts.specs.declared.memory.Mark.{Mark}
use Rattle.layouts.specs.declared.memory.Mark.TheVariants.{Open, Sensitive, Complement, Printed, Barred}

-- A need above 0 goes with the mark sensitive, and with no other; a cell is barred only in the memory of a trial.
abbrev pub goes_with : ℕ → Mark → Bool
goes_with need Open = not (nat_lt 0 need)
goes_with need Sensitive = nat_lt 0 need
goes_with need Complement = not (nat_lt 0 need)
goes_with need Printed = not (nat_lt 0 need)
goes_with need Barred = false

-- the need is at most the figure, and goes with the mark
abbrev pub is_cell : Row → Bool
is_cell r = nat_le r.need r.figure && goes_with r.need r.mark

-- the row of the cell c
abbrev pub row_at : List Row → ℕ → Row
row_at rows c = slice_index_or rows c blank
