-- Readings: the tables that someone who knows all cells but the withheld ones must hold possible.
use Rattle.std.specs.Prelude.{◌≡◌, ℕ, ◌+◌, ◌<◌, ◌≤◌, Bool, true, false}
use Rattle.refusals.specs.declared.Side.{Side}
use Rattle.refusals.specs.declared.Side.TheVariants.{Up, Down}
use Rattle.layouts.specs.Shape.{Shape}
use Rattle.readings.specs.Balance.{Balanced}

-- A reading of the figures v: a balanced table of whole numbers with the true figure at each cell that is not withheld.
pub record Reading (sh : Shape) (withheld : ℕ → Bool) (v y : ℕ → ℕ) : Type 0 where
  pub balanced : Balanced sh y
  pub true_figures : (c : ℕ) → c < sh.cells → withheld c ≡ false → y c ≡ v c

-- the value n is k or more away from the figure v, above it or below it
abbrev pub Away : Side → ℕ → ℕ → ℕ → Type 0
Away Up k v n = v + k ≤ n
Away Down k v n = n + k ≤ v

-- The table y is a reading with v t + k or more at the cell t, on the side up; or with v t - k or less, on the side down.
pub record Witness (sh : Shape) (withheld : ℕ → Bool) (v : ℕ → ℕ) (k t : ℕ) (side : Side) (y : ℕ → ℕ) : Type 0 where
  pub reading : Reading sh withheld v y
  pub away : Away side k (v t) (y t)

-- there is such a reading
abbrev pub Far : Shape → (ℕ → Bool) → (ℕ → ℕ) → ℕ → ℕ → Side → Type 0
Far sh withheld v k t side = (y : ℕ → ℕ) × Witness sh withheld v k t side y

-- what is withheld under `less` is withheld under `more`
abbrev pub Withholds : ℕ → (ℕ → Bool) → (ℕ → Bool) → Type 0
Withholds n less more = (c : ℕ) → c < n → less c ≡ true → more c ≡ true
