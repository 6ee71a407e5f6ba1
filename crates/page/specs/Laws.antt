-- The laws of pages: how long they are, that they spell what they show, and what one other figure alters.
use Rattle.std.specs.Prelude.{◌≡◌, ℕ, ◌*◌, ◌^◌, ◌<◌, ◌≤◌, true, List, ◌++◌, length, None, Option, ◌≢◌}
use Rattle.page.specs.Page.{page, spells, fits}
use Rattle.page.specs.Writing.{line_over}

-- A page can have this many cells, and every figure that it shows fits its columns.
pub record Printable (cells : ℕ) (shows : ℕ → Option ℕ) : Type 0 where
  pub few : cells ≤ 10 ^ 4
  pub fit : (c : ℕ) → c < cells → fits (shows c) ≡ true

-- every printable page
pub record PageLaws : Type 0 where
  -- has 19 bytes for each cell,
  pub long : (cells : ℕ) (shows : ℕ → Option ℕ) → Printable cells shows → length (page cells shows) ≡ 19 * cells
  -- spells what it shows, whatever bytes follow it,
  pub spelled : (cells : ℕ) (shows : ℕ → Option ℕ) (rest : List ℕ) → Printable cells shows
      → (c : ℕ) → c < cells → spells (page cells shows ++ rest) c ≡ shows c
  -- spells nothing beyond its cells,
  pub ended : (cells : ℕ) (shows : ℕ → Option ℕ) → Printable cells shows → (c : ℕ) → cells ≤ c → spells (page cells shows) c ≡ None
  -- and, where another shows the same but at c, differs from it in line c alone
  pub altered : (cells : ℕ) (shows other : ℕ → Option ℕ) (c : ℕ) → Printable cells shows → c < cells
      → ((i : ℕ) → (i ≢ c) → other i ≡ shows i) → page cells other ≡ line_over (page cells shows) c (other c)
