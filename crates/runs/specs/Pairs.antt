-- What a reader of the pages cannot rule out: balanced tables that agree with every page.
use Rattle.std.specs.Prelude.{◌≡◌, ℕ, ◌^◌, ◌<◌, ◌≤◌, List, [], ◌∷◌, Some}
use Rattle.refusals.specs.declared.Side.{Side}
use Rattle.refusals.specs.declared.Side.TheVariants.{Up, Down}
use Rattle.page.specs.Page.{spells}
use Rattle.readings.specs.Balance.{Balanced, Sound}
use Rattle.readings.specs.Readings.{Away}
use Rattle.readings.specs.Exposure.{Figures}

-- What settling hands over: balanced figures that fit a page, over a layout of at most 512 cells whose relations exist, and no need above its figure.
pub record Settled (F : Figures) : Type 0 where
  pub sound : Sound F.shape
  pub few : F.shape.cells ≤ 512
  pub balanced : Balanced F.shape F.figure
  pub within : (c : ℕ) → c < F.shape.cells → F.need c ≤ F.figure c
  pub small : (c : ℕ) → c < F.shape.cells → F.figure c < 10 ^ 13

-- the table has every figure that the page spells
abbrev pub Agrees : (ℕ → ℕ) → List ℕ → Type 0
Agrees t p = (c x : ℕ) → spells p c ≡ Some x → t c ≡ x

-- the table agrees with each of the pages
abbrev pub AgreesAll : (ℕ → ℕ) → List (List ℕ) → Type 0
AgreesAll t [] = Unit {0}
AgreesAll t (p ∷ ps) = Agrees t p × AgreesAll t ps

module _ (F : Figures) where
  pub record Sensitive (c : ℕ) : Type 0 where
    pub inside : c < F.shape.cells
    pub has_need : 0 < F.need c

  -- The table balances, agrees with every page, and at c is as far from the true figure as the need asks, on that side.
  pub record Shows (ps : List (List ℕ)) (side : Side) (c : ℕ) (t : ℕ → ℕ) : Type 0 where
    pub balanced : Balanced F.shape t
    pub fits : AgreesAll t ps
    pub far : Away side (F.need c) (F.figure c) (t c)

  -- such a table above the true figure, and one below it
  abbrev pub Pair : List (List ℕ) → ℕ → Type 0
  Pair ps c = ((t : ℕ → ℕ) × Shows ps Up c t) × ((t : ℕ → ℕ) × Shows ps Down c t)

  -- the pages leave every sensitive cell its pair
  abbrev pub Paired : List (List ℕ) → Type 0
  Paired ps = (c : ℕ) → Sensitive c → Pair ps c

  -- the pages leave some sensitive cell without a pair
  abbrev pub GivesAway : List (List ℕ) → Type 0
  GivesAway ps = (c : ℕ) × Sensitive c × (Pair ps c → ⊥)
