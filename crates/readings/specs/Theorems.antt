-- What is proved of readings, exposure and the audit.
use Rattle.std.specs.Prelude.{◌≡◌, ℕ, ◌<◌, ◌≤◌, Bool, true, false, ◌↔◌, Some, None}
use Rattle.refusals.specs.declared.Side.{Side}
use Rattle.refusals.specs.declared.Side.TheVariants.{Up, Down}
use Rattle.layouts.specs.Shape.{Shape}
use Rattle.readings.specs.Balance.{Balanced, Sound}
use Rattle.readings.specs.Readings.{Far, Withholds}
use Rattle.readings.specs.Exposure.{Exposed, is_exposed, Figures, sensitive, audit}

-- the figure has k to lose, where it is to lose them
abbrev pub Room : (ℕ → ℕ) → ℕ → ℕ → Side → Type 0
Room v k t Up = Unit {0}
Room v k t Down = k ≤ v t

-- The test by walls is true exactly where the cell is exposed, and where it is false some reading is k or more away.
abbrev pub WallsTell : Type 0
WallsTell =
    (sh : Shape) (withheld : ℕ → Bool) (v : ℕ → ℕ) (k t : ℕ) (side : Side) → Sound sh → Balanced sh v → t < sh.cells
    → withheld t ≡ true → Room v k t side
    → (is_exposed sh withheld v k t side ≡ true ↔ Exposed sh withheld v k t side) × (is_exposed sh withheld v k t side ≡ false → Far sh withheld v k t side)

-- Withholding less never hides a cell.
abbrev pub WallsStay : Type 0
WallsStay =
    (sh : Shape) (less more : ℕ → Bool) (v : ℕ → ℕ) (k t : ℕ) (side : Side) → Withholds sh.cells less more
    → is_exposed sh more v k t side ≡ true → is_exposed sh less v k t side ≡ true

-- Figures that can be audited: they balance, and each sensitive cell is withheld and has its need at least.
pub record Fit (F : Figures) (withheld : ℕ → Bool) : Type 0 where
  pub sound : Sound F.shape
  pub balanced : Balanced F.shape F.figure
  pub hidden : (c : ℕ) → c < F.shape.cells → sensitive F.need c ≡ true → withheld c ≡ true
  pub within : (c : ℕ) → c < F.shape.cells → sensitive F.need c ≡ true → F.need c ≤ F.figure c

-- some reading is as far from the figure of c as its need says
abbrev pub Hidden : Figures → (ℕ → Bool) → ℕ → Side → Type 0
Hidden F withheld c side = Far F.shape withheld F.figure (F.need c) c side

-- every sensitive cell is hidden on both sides
abbrev pub Safe : Figures → (ℕ → Bool) → Type 0
Safe F withheld = (c : ℕ) → c < F.shape.cells → sensitive F.need c ≡ true → (side : Side) → Hidden F withheld c side

-- the sensitive cell c is exposed on that side
pub record Told (F : Figures) (withheld : ℕ → Bool) (c : ℕ) (side : Side) : Type 0 where
  pub inside : c < F.shape.cells
  pub is_sensitive : sensitive F.need c ≡ true
  pub exposed : Hidden F withheld c side → ⊥

-- The audit passes exactly the safe figures, and names the first cell that is exposed, up before down.
pub record Audited (F : Figures) (withheld : ℕ → Bool) : Type 0 where
  pub passes : audit F withheld ≡ None ↔ Safe F withheld
  pub names : (c : ℕ) (side : Side) → audit F withheld ≡ Some (c, side) → Told F withheld c side
  pub first : (c : ℕ) (side : Side) → audit F withheld ≡ Some (c, side)
      → (b : ℕ) → b < c → sensitive F.need b ≡ true → (other : Side) → Hidden F withheld b other
  pub up_first : (c : ℕ) → audit F withheld ≡ Some (c, Down) → Hidden F withheld c Up

abbrev pub AuditRight : Type 0
AuditRight = (F : Figures) (withheld : ℕ → Bool) → Fit F withheld → Audited F withheld
