-- Rows and the cell records made of them.
use Rattle.std.specs.Prelude.{◌≡◌, true, false, Ok, Err, Result}
use Rattle.layouts.specs.declared.memory.Row.{Row}
use Rattle.sheet.specs.declared.cell.Cell.{Cell}
use Rattle.sheet.specs.Cells.{is_cell}

-- the row of a cell record
abbrev pub row_of : Cell → Row
row_of c = record { figure = c.figure; need = c.need; mark = c.mark }

-- a record is made of exactly the rows that can be one; another is given back
abbrev pub Made : Row → Result Cell Row → Type 0
Made row (Ok c) = (is_cell row ≡ true) × (row_of c ≡ row)
Made row (Err r) = (is_cell row ≡ false) × (r ≡ row)
