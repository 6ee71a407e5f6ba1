-- What holds of every sheet, by the number of its cells.
use Rattle.std.proofs.Common.{◌≡◌, ℕ, ◌<◌, ◌≤◌, true, length, vec_items, vec_len, sym, ◌∙◌, arith}
use Rattle.layouts.specs.Admission.{shape_of}
use Rattle.readings.specs.Exposure.{Figures}
use Rattle.readings.specs.Rows.{figures, needs, looked_at}
use Rattle.intake.specs.Marks.{mark_at}
use Rattle.sheet.specs.declared.held.Sheet.{Sheet}
use Rattle.sheet.specs.Cells.{goes_with}
use Rattle.runs.specs.Acts.{Standing}
use Rattle.sheet.specs.Standing.{standing_of}
use Rattle.sheet.specs.Sheets.{rows_of, figures_of, stands}
use Rattle.sheet.specs.Trying.{SameTable}

pub rows_long : (s : Sheet) → length (rows_of s) ≡ (figures_of s).shape.cells
rows_long s = s.tabled.celled ∙ s.network.edges.ok.0

pub covers_long : (s : Sheet) → length (vec_items s.bench.covers) ≡ (figures_of s).shape.cells
covers_long s = sym s.bench.covers.ok.0 ∙ s.fits.covers ∙ s.network.edges.ok.0

pub cells_few : (s : Sheet) → (figures_of s).shape.cells ≤ 512
cells_few s = omega (arith, s.network.small.0, s.network.edges.ok.0)

inside : (s : Sheet) (c : ℕ) → c < (figures_of s).shape.cells → c < vec_len s.network.edges
inside s c l = omega (arith, s.network.edges.ok.0)

pub tied_at : (s : Sheet) (c : ℕ) → c < (figures_of s).shape.cells → goes_with (needs (rows_of s) c) (mark_at (rows_of s) c) ≡ true
tied_at s c l = s.tied c (inside s c l)

pub within_at : (s : Sheet) (c : ℕ) → c < (figures_of s).shape.cells → needs (rows_of s) c ≤ figures (rows_of s) c
within_at s c l = s.tabled.within c (inside s c l)

pub small_at : (s : Sheet) (c : ℕ) → c < (figures_of s).shape.cells → figures (rows_of s) c ≤ 2048000000000
small_at s c l = s.tabled.small c (inside s c l)

-- two sheets over one network, with the same figures and needs
pub same_figures_by : (s t : Sheet) → t.network ≡ s.network → ((c : ℕ) → figures (rows_of t) c ≡ figures (rows_of s) c)
    → ((c : ℕ) → needs (rows_of t) c ≡ needs (rows_of s) c) → figures_of t ≡ figures_of s
same_figures_by s t n f k = λ i. record { shape = shape_of (n i); figure = λ c. f c i; need = λ c. k c i }

pub same_table_figures : (s t : Sheet) → SameTable s t → figures_of t ≡ figures_of s
same_table_figures s t e = λ i. looked_at (shape_of (e.same_network i)) (e.same_rows i)

-- what is said of the figures and the standing alone
pub same_for : {A : Type 0} (f : Figures → Standing → A) (s t : Sheet) → SameTable s t → f (figures_of t) (stands t) ≡ f (figures_of s) (stands s)
same_for f s t e = λ i. f (looked_at (shape_of (e.same_network i)) (e.same_rows i)) (standing_of (e.same_rows i))
