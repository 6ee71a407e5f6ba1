-- Paths of changes from the relation that the tried cell enters to the one that it leaves: each cell on the way is raised, or
-- lowered, by the same amount, so that only the two ends of the path are out of balance.
use Rattle.std.specs.Prelude.{◌≡◌, ℕ, ◌+◌, ◌-◌, ◌<◌, ◌≤◌, Bool, true, false, cond, not, ◌&&◌, ◌⊎◌, List, Some, None, Option, ◌==◌, ◌≢◌, is_some, nat_le, nat_lt, slice_index, slice_index_or}
use Rattle.refusals.specs.declared.Side.{Side}
use Rattle.refusals.specs.declared.Side.TheVariants.{Up, Down}
use Rattle.sums.specs.Sums.{sum_below}
use Rattle.layouts.specs.Shape.{Shape}
use Rattle.layouts.specs.declared.memory.Cover.{Cover}
use Rattle.layouts.specs.declared.memory.Cover.TheVariants.{Shown, Withheld, Barred}
use Rattle.layouts.specs.declared.memory.Reach.{Reach}
use Rattle.readings.specs.Balance.{entering_sum, leaving_sum, Balanced}
use Rattle.readings.specs.Readings.{Witness}
use Rattle.readings.specs.Exposure.{behind, ahead, first_from, Figures, is_exposed}

-- The layout as the paths of a side see it: a path raises a cell that it passes from `leaves` to `enters`.
abbrev pub turned : Shape → Side → Shape
turned sh side = record {
  cells = sh.cells;
  relations = sh.relations;
  leaf = sh.leaf;
  leaves = behind sh side;
  enters = ahead sh side;
  counts = sh.counts;
}

-- the table x is balanced, but that d was taken out of the relation a and put into the relation b
abbrev pub Carries : Shape → ℕ → ℕ → ℕ → (ℕ → ℕ) → Type 0
Carries sh d a b x = (r : ℕ) → r < sh.relations → entering_sum sh x r + cond (a == r) d 0 ≡ leaving_sum sh x r + cond (b == r) d 0

-- the tables x and z are the same but at the cell c
abbrev pub SameBut : Shape → ℕ → (ℕ → ℕ) → (ℕ → ℕ) → Type 0
SameBut sh c x z = (e : ℕ) → e < sh.cells → (e ≢ c) → z e ≡ x e

-- A set S of relations that no path through the cells of `pass` leads out of: none can be raised, and none that is lowered has d.
pub record Closed (sh : Shape) (pass : ℕ → Bool) (y : ℕ → ℕ) (d : ℕ) (S : ℕ → Bool) : Type 0 where
  pub no_raise : (c : ℕ) → c < sh.cells → pass c ≡ true → S (sh.leaves c) ≡ true → S (sh.enters c) ≡ true
  pub no_lower : (c : ℕ) → c < sh.cells → pass c ≡ true → S (sh.enters c) ≡ true → d ≤ y c → S (sh.leaves c) ≡ true

-- a list as a table
abbrev pub at : List ℕ → ℕ → ℕ
at xs c = slice_index xs c

abbrev pub is_withheld : Cover → Bool
is_withheld Shown = false
is_withheld Withheld = true
is_withheld Barred = false

-- the cells that the covers withhold; past their end there is none
abbrev pub withheld_by : List Cover → ℕ → Bool
withheld_by covers c = is_withheld (slice_index_or covers c Shown)

-- A search numbers the relations in the order in which it reaches them; one that is not reached has the layer m.
abbrev pub reached : ℕ → (ℕ → ℕ) → ℕ → Bool
reached m layer r = nat_lt (layer r) m

-- whether the relation r is reached, in which layer, and by which cell
abbrev pub way_to : List (Option Reach) → ℕ → Option Reach
way_to ways r = slice_index_or ways r None

abbrev pub is_reached : List (Option Reach) → ℕ → Bool
is_reached ways r = is_some (way_to ways r)

abbrev pub layer_of : ℕ → Option Reach → ℕ
layer_of m (Some w) = w.layer
layer_of m None = m

abbrev pub layer_in : ℕ → List (Option Reach) → ℕ → ℕ
layer_in m ways r = layer_of m (way_to ways r)

abbrev pub via_of : Option Reach → ℕ
via_of (Some w) = w.via
via_of None = 0

abbrev pub via_in : List (Option Reach) → ℕ → ℕ
via_in ways r = via_of (way_to ways r)

-- by the cell c a relation of R leads to one outside: c is raised on the way, or lowered and has d
abbrev pub is_leading : Shape → Side → (ℕ → Bool) → (ℕ → ℕ) → ℕ → (ℕ → Bool) → ℕ → Bool
is_leading sh side pass y d R c = pass c && cond (R (behind sh side c)) (not (R (ahead sh side c))) (R (ahead sh side c) && nat_le d (y c))

-- the first such cell from the number `from` on
abbrev pub next_cell : Shape → Side → (ℕ → Bool) → (ℕ → ℕ) → ℕ → (ℕ → Bool) → ℕ → Option ℕ
next_cell sh side pass y d R from = first_from (sh.cells - from) from (λ c. cond (is_leading sh side pass y d R c) (Some c) None)

-- of the two relations of such a cell, the one outside
abbrev pub far_end_of : Shape → (ℕ → Bool) → ℕ → ℕ
far_end_of sh R c = cond (R (sh.leaves c)) (sh.enters c) (sh.leaves c)

-- How a relation r other than the start was reached: by the cell c, from a relation of a lower layer.
pub record Came (sh : Shape) (pass : ℕ → Bool) (y : ℕ → ℕ) (d : ℕ) (layer : ℕ → ℕ) (r c : ℕ) : Type 0 where
  pub inside : c < sh.cells
  pub passes : pass c ≡ true
  pub ways : ((sh.enters c ≡ r) × (layer (sh.leaves c) < layer r)) ⊎ ((sh.leaves c ≡ r) × (layer (sh.enters c) < layer r) × (d ≤ y c))

-- each relation that was reached, but the start, was reached by its cell `via`
abbrev pub Tree : Shape → (ℕ → Bool) → (ℕ → ℕ) → ℕ → (ℕ → ℕ) → (ℕ → ℕ) → ℕ → Type 0
Tree sh pass y d layer via start =
    (r : ℕ) → r < sh.relations → layer r < sh.relations → (r ≢ start) → Came sh pass y d layer r (via r)

-- A search from `start` that has reached `count` relations.
pub record Searched (sh : Shape) (pass : ℕ → Bool) (y : ℕ → ℕ) (d start : ℕ) (layer via : ℕ → ℕ) (count : ℕ) : Type 0 where
  pub tree : Tree sh pass y d layer via start
  pub started : layer start < sh.relations
  pub ranks : (r : ℕ) → r < sh.relations → layer r < sh.relations → layer r < count
  pub counted : count + sum_below sh.relations (λ r. cond (reached sh.relations layer r) 0 1) ≡ sh.relations

-- The end of a search: the goal is reached, or what is reached is closed.
pub record Explored (sh : Shape) (pass : ℕ → Bool) (y : ℕ → ℕ) (d start goal : ℕ) (layer via : ℕ → ℕ) (found : Bool) : Type 0 where
  pub tree : Tree sh pass y d layer via start
  pub goal_reached : found ≡ true → layer goal < sh.relations
  pub closed : found ≡ false → Closed sh pass y d (reached sh.relations layer)
  pub start_inside : found ≡ false → reached sh.relations layer start ≡ true
  pub goal_outside : found ≡ false → reached sh.relations layer goal ≡ false

-- The walk along a path began with the table y at the relation goal, and has come back to the relation r with the table x. It goes
-- from each relation to one of a lower layer, so it has not changed a cell that touches a lower layer than r's.
pub record Walked (sh : Shape) (pass : ℕ → Bool) (y : ℕ → ℕ) (d : ℕ) (layer : ℕ → ℕ) (goal r : ℕ) (x : ℕ → ℕ) : Type 0 where
  pub carries : Carries sh d r goal x
  pub only : (c : ℕ) → c < sh.cells → pass c ≡ false → x c ≡ y c
  pub below : (c : ℕ) → c < sh.cells → (layer (sh.leaves c) < layer r) ⊎ (layer (sh.enters c) < layer r) → x c ≡ y c
  pub near : (c : ℕ) → c < sh.cells → x c ≤ y c + d

-- the value goes from m to n, by d, on that side
abbrev pub Moves : Side → ℕ → ℕ → ℕ → Type 0
Moves Up d m n = n ≡ m + d
Moves Down d m n = n + d ≡ m

-- a closed set around the relation that t enters
abbrev pub Stuck : Shape → Side → (ℕ → Bool) → (ℕ → ℕ) → ℕ → ℕ → Type 0
Stuck sh side pass y d t =
    (S : ℕ → Bool) × Closed (turned sh side) pass y d S × (S (sh.enters t) ≡ true) × (S (sh.leaves t) ≡ false)

-- One change of the cell t by d, from the balanced table y to the balanced table z, along one path; or there is no such path.
pub record Changed (sh : Shape) (side : Side) (pass : ℕ → Bool) (t d : ℕ) (y z : ℕ → ℕ) (done : Bool) : Type 0 where
  pub balanced : Balanced sh z
  pub only : (c : ℕ) → c < sh.cells → pass c ≡ false → (c ≢ t) → z c ≡ y c
  pub near : (c : ℕ) → c < sh.cells → z c ≤ y c + d
  pub moves : done ≡ true → Moves side d (y t) (z t)
  pub stays : done ≡ false → (c : ℕ) → z c ≡ y c
  pub stuck : done ≡ false → Stuck sh side pass y d t

-- of the need k, `left` is still to go: the figure is v, and the value is n by now
abbrev pub Partly : Side → ℕ → ℕ → ℕ → ℕ → Type 0
Partly Up k left v n = n + left ≡ v + k
Partly Down k left v n = n + k ≡ v + left

-- A trial of the cell t: the table y has come as far as that, and the next path is to have the amount d.
pub record Trying (sh : Shape) (side : Side) (pass : ℕ → Bool) (v : ℕ → ℕ) (k t left d : ℕ) (y : ℕ → ℕ) : Type 0 where
  pub balanced : Balanced sh y
  pub only : (c : ℕ) → c < sh.cells → pass c ≡ false → (c ≢ t) → y c ≡ v c
  pub moved : Partly side k left (v t) (y t)
  pub near : (c : ℕ) → c < sh.cells → y c + left ≤ v c + k
  pub at_most : d ≤ left
  pub some : 0 < left → 0 < d

-- What a trial of the cell t tells: whether it is exposed; and where it is not, the table y is a reading that shows it.
pub record Tried (F : Figures) (withheld : ℕ → Bool) (t : ℕ) (side : Side) (told : Bool) (y : ℕ → ℕ) : Type 0 where
  pub right : told ≡ is_exposed F.shape withheld F.figure (F.need t) t side
  pub shown : told ≡ false → Witness F.shape withheld F.figure (F.need t) t side y
