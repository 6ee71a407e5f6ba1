-- Balance: at each relation, the entering cells and the leaving cells have equal sums.
use Rattle.std.specs.Prelude.{◌≡◌, ℕ, ◌<◌, cond, ◌==◌}
use Rattle.sums.specs.Sums.{sum_below}
use Rattle.layouts.specs.Shape.{Shape}

-- the sum of a table over the cells that enter the relation r
abbrev pub entering_sum : Shape → (ℕ → ℕ) → ℕ → ℕ
entering_sum sh x r = sum_below sh.cells (λ c. cond (sh.enters c == r) (x c) 0)

-- the sum of a table over the cells that leave the relation r
abbrev pub leaving_sum : Shape → (ℕ → ℕ) → ℕ → ℕ
leaving_sum sh x r = sum_below sh.cells (λ c. cond (sh.leaves c == r) (x c) 0)

abbrev pub Balanced : Shape → (ℕ → ℕ) → Type 0
Balanced sh x = (r : ℕ) → r < sh.relations → entering_sum sh x r ≡ leaving_sum sh x r

-- The relations of every cell exist: of the laws of a layout, the two that exposure needs.
pub record Sound (sh : Shape) : Type 0 where
  pub left : (c : ℕ) → c < sh.cells → sh.leaves c < sh.relations
  pub entered : (c : ℕ) → c < sh.cells → sh.enters c < sh.relations
