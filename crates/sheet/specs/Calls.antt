-- What each call on a sheet answers, and what it leaves of the memory that it is handed.
use Rattle.std.specs.Prelude.{ℕ, ◌*◌, cond, List, ◌++◌, length, take, drop, Some, None, Ok, Err, Option, Result, nat_le}
use Rattle.refusals.specs.declared.Refusal.{Refusal}
use Rattle.refusals.specs.declared.Refusal.TheVariants.{UnknownCell}
use Rattle.layouts.specs.declared.memory.Row.{Row}
use Rattle.layouts.specs.declared.memory.Mark.{Mark}
use Rattle.layouts.specs.declared.memory.Mark.TheVariants.{Open, Sensitive, Complement, Printed, Barred}
use Rattle.runs.specs.Acts.{Act, withhold, print, witness, Answer, refused, count, page, table, refusal, accepted, complements, added, page_of}
use Rattle.sheet.specs.declared.held.Sheet.{Sheet}
use Rattle.sheet.specs.Cells.{row_at}
use Rattle.sheet.specs.Sheets.{rows_of, figures_of, stands}

-- why the act is refused as the sheet stands, if it is
abbrev pub refusal_of : Sheet → Act → Option Refusal
refusal_of s act = refusal (figures_of s) (stands s) act

-- what a call answers that is refused for this reason, or for none
abbrev pub answered : {X : Type 0} → Option Refusal → X → Result X Refusal
answered (Some r) x = Err r
answered None x = Ok x

-- a cell's figure, need and mark
abbrev pub look_answer : Sheet → ℕ → Result Row Refusal
look_answer s c = cond (nat_le (figures_of s).shape.cells c) (Err (UnknownCell c)) (Ok (row_at (rows_of s) c))

-- how many complements there are then
abbrev pub withhold_answer : Sheet → List ℕ → Result ℕ Refusal
withhold_answer s cells = answered (refusal_of s (withhold cells)) (complements (figures_of s) (accepted (figures_of s) (stands s) (withhold cells)))

-- how many cells stay added
abbrev pub search_answer : Sheet → ℕ
search_answer s = added (figures_of s) (stands s)

-- how many bytes the page has
abbrev pub print_answer : Sheet → ℕ → Result ℕ Refusal
print_answer s memory = answered (refusal_of s (print memory)) (19 * (figures_of s).shape.cells)

-- how many figures the table has
abbrev pub witness_answer : Sheet → ℕ → ℕ → ℕ → Result ℕ Refusal
witness_answer s c side memory = answered (refusal_of s (witness c side memory)) (figures_of s).shape.cells

-- THE ANSWERS AS A RUN HAS THEM
abbrev pub counted : Result ℕ Refusal → Answer
counted (Ok n) = count n
counted (Err r) = refused r

-- the first n bytes of the memory are the page
abbrev pub paged : Result ℕ Refusal → List ℕ → Answer
paged (Ok n) memory = page (take n memory)
paged (Err r) memory = refused r

-- the first n figures of the memory are the table
abbrev pub tabled : Result ℕ Refusal → List ℕ → Answer
tabled (Ok n) memory = table (take n memory)
tabled (Err r) memory = refused r

-- MEMORY
-- the one where a call is accepted, the other where it is refused
abbrev pub accepted_or : {X : Type 0} → Option Refusal → X → X → X
accepted_or (Some r) x y = y
accepted_or None x y = x

-- the memory after a print: the page and then what stood there, or all as it was
abbrev pub page_left_by : Sheet → List ℕ → List ℕ
page_left_by s before =
    accepted_or (refusal_of s (print (length before))) (page_of (figures_of s) (stands s) ++ drop (19 * (figures_of s).shape.cells) before) before

-- what a page shows of a cell with this mark and figure
abbrev pub shown_by : Mark → ℕ → Option ℕ
shown_by Open figure = Some figure
shown_by Sensitive figure = None
shown_by Complement figure = None
shown_by Printed figure = Some figure
shown_by Barred figure = None
