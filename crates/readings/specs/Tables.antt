-- Rows that can be audited, and the memory to try readings with.
use Rattle.std.specs.Prelude.{◌≡◌, ℕ, ◌<◌, ◌≤◌, true, List, length, vec_items, vec_len}
use Rattle.layouts.specs.Admission.{shape_of}
use Rattle.layouts.specs.declared.network.Network.{Network}
use Rattle.layouts.specs.declared.memory.Bench.{Bench}
use Rattle.layouts.specs.declared.memory.Cover.{Cover}
use Rattle.layouts.specs.declared.memory.Row.{Row}
use Rattle.readings.specs.Balance.{Balanced}
use Rattle.readings.specs.Exposure.{Figures}
use Rattle.readings.specs.Paths.{withheld_by}
use Rattle.readings.specs.Rows.{figures, looked_at, needs}

-- A row for each cell: the figures balance, no need is above its figure, and no figure above 2,048 times the largest amount.
pub record Tabled (n : Network) (rows : List Row) : Type 0 where
  pub celled : length rows ≡ vec_len n.edges
  pub balanced : Balanced (shape_of n) (figures rows)
  pub within : (c : ℕ) → c < vec_len n.edges → needs rows c ≤ figures rows c
  pub small : (c : ℕ) → c < vec_len n.edges → figures rows c ≤ 2048000000000

-- as many covers and figures as the network has edges, and as many ways as it has relations
pub record Fits (n : Network) (b : Bench) : Type 0 where
  pub covers : vec_len b.covers ≡ vec_len n.edges
  pub table : vec_len b.table ≡ vec_len n.edges
  pub reached : vec_len b.reached ≡ n.relations

-- the covers withhold each cell that has a need
abbrev pub CoverNeeds : Figures → List Cover → Type 0
CoverNeeds F covers = (c : ℕ) → c < F.shape.cells → 0 < F.need c → withheld_by covers c ≡ true

-- What an audit or a witness is lent: such rows, a bench that fits, and covers that withhold the sensitive cells at least.
pub record Lent (n : Network) (rows : List Row) (b : Bench) : Type 0 where
  pub tabled : Tabled n rows
  pub fits : Fits n b
  pub hidden : CoverNeeds (looked_at (shape_of n) rows) (vec_items b.covers)
