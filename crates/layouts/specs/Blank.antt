-- What memory holds before anything is entered.
use Rattle.std.specs.Prelude.{◌≡◌, ℕ, ◌≤◌, Bool, true, false, [], None, replicate, vec_items, vec_capacity}
use Rattle.layouts.specs.declared.memory.Memory.{Memory}
use Rattle.layouts.specs.declared.memory.Bench.{Bench}
use Rattle.layouts.specs.declared.memory.Cover.TheVariants.{Shown}
use Rattle.layouts.specs.declared.memory.Row.{Row}
use Rattle.layouts.specs.declared.memory.Mark.{Mark}
use Rattle.layouts.specs.declared.memory.Mark.TheVariants.{Open, Sensitive, Complement, Printed, Barred}

abbrev pub blank : Row
blank = record { figure = 0; need = 0; mark = Open }

abbrev pub is_open_mark : Mark → Bool
is_open_mark Open = true
is_open_mark Sensitive = false
is_open_mark Complement = false
is_open_mark Printed = false
is_open_mark Barred = false

-- memory of trials in which nothing was tried: for each cell its cover and a figure, and for each relation no way to it
pub record Clear (cells relations : ℕ) (b : Bench) : Type 0 where
  pub covers : vec_items b.covers ≡ replicate cells Shown
  pub table : vec_items b.table ≡ replicate cells 0
  pub reached : vec_items b.reached ≡ replicate relations None

-- room for 2,048 records, and as many to be entered, and nothing in it; for each cell a chain and a row; and clear memory of trials
pub record Fresh (cells relations : ℕ) (m : Memory) : Type 0 where
  pub records : vec_items m.records ≡ []
  pub pending : vec_items m.pending ≡ []
  pub room : 2048 ≤ vec_capacity m.records
  pub pending_room : 2048 ≤ vec_capacity m.pending
  pub heads : vec_items m.heads ≡ replicate cells None
  pub seen : vec_items m.seen ≡ replicate 2048 false
  pub rows : vec_items m.rows ≡ replicate cells blank
  pub bench : Clear cells relations m.bench
