-- What writing a line or a page answers, and what it leaves of the memory.
use Rattle.std.specs.Prelude.{ℕ, ◌+◌, ◌*◌, ◌^◌, Bool, cond, ◌&&◌, List, ◌++◌, length, take, drop, None, Ok, Err, Option, Result, nat_le, nat_lt, slice_index_or}
use Rattle.refusals.specs.declared.Refusal.{Refusal}
use Rattle.refusals.specs.declared.Refusal.TheVariants.{MemorySize}
use Rattle.std.specs.List.{list_all}
use Rattle.page.specs.Page.{line, page, fits}

-- the answer where there is room, or the refusal
abbrev pub if_room : {X : Type 0} → Bool → X → Result X Refusal
if_room room x = cond room (Ok x) (Err MemorySize)

-- A LINE
-- memory of this size has room for line c, and its number and figure fit their columns
abbrev pub line_room : ℕ → ℕ → Option ℕ → Bool
line_room size c s = nat_lt c (10 ^ 4) && (fits s && nat_le (19 * c + 19) size)

-- the memory with line c written over, and nothing else changed
unfoldable pub line_over : List ℕ → ℕ → Option ℕ → List ℕ
line_over before c s = take (19 * c) before ++ (line c s ++ drop (19 * c + 19) before)

-- what a call leaves: line c written where there is room, else all as it was
abbrev pub line_left : List ℕ → ℕ → Option ℕ → List ℕ
line_left before c s = cond (line_room (length before) c s) (line_over before c s) before

-- A PAGE
-- what a list shows of each cell
abbrev pub shown_entry : List (Option ℕ) → ℕ → Option ℕ
shown_entry xs c = slice_index_or xs c None

-- memory of this size has room for the page, and its numbers and figures fit their columns
abbrev pub page_room : ℕ → List (Option ℕ) → Bool
page_room size xs = nat_le (length xs) (10 ^ 4) && (list_all fits xs && nat_le (19 * length xs) size)

-- what a call leaves: the page and then what stood there, or all as it was
abbrev pub page_left : List ℕ → List (Option ℕ) → List ℕ
page_left before xs = cond (page_room (length before) xs) (page (length xs) (shown_entry xs) ++ drop (19 * length xs) before) before
