-- The covers of a sheet as it stands, and its audit.
use Rattle.std.proofs.Common.{◌≡◌, ℕ, ltb, List, vec_items, Option, sym, ap, ◌∙◌, arith}
use mathlib.Core.Path.{fun_ext}
use Rattle.std.proofs.lemmas.Bool.{or_left, lt-ltb, le-ltb}
use Rattle.refusals.specs.declared.Side.{Side}
use Rattle.layouts.specs.declared.memory.Cover.{Cover}
use Rattle.layouts.specs.declared.memory.Cover.TheVariants.{Shown}
use Rattle.readings.specs.Exposure.{Figures, audit}
use Rattle.readings.specs.Paths.{withheld_by}
use Rattle.readings.specs.Rows.{needs}
use Rattle.readings.specs.Tables.{CoverNeeds}
use Rattle.runs.specs.Acts.{Standing, withheld}
use Rattle.sheet.specs.declared.held.Sheet.{Sheet}
use Rattle.sheet.specs.Sheets.{rows_of, figures_of, stands}
use Rattle.sheet.specs.Trying.{covers_of, SameTable}
use Rattle.sheet.proofs.Facts.{same_table_figures}
use Rattle.sheet.proofs.Halfway.{half_none, covers_half}

module _ (s t : Sheet) (same : SameTable s t) (covers : vec_items t.bench.covers ≡ covers_of Shown (rows_of s)) where
  stood : (c : ℕ) → withheld_by (vec_items t.bench.covers) c ≡ withheld (figures_of s) (stands s) c
  stood c =
      ap (λ (xs : List Cover). withheld_by xs c) covers
      ∙ covers_half s Shown 0 (omega arith) (λ x l. sym (le-ltb x 0 (omega arith))) c
      ∙ ap (λ (st : Standing). withheld (figures_of s) st c) (half_none (rows_of s))

  -- the covers withhold what is withheld
  pub covers_stood : withheld_by (vec_items t.bench.covers) ≡ withheld (figures_of s) (stands s)
  covers_stood = fun_ext stood

  pub stood_hidden : CoverNeeds (figures_of t) (vec_items t.bench.covers)
  stood_hidden c l n =
      stood c ∙ or_left (ltb 0 ((figures_of s).need c)) _ (ap (λ (G : Figures). ltb 0 (G.need c)) (sym (same_table_figures s t same)) ∙ lt-ltb 0 (needs (rows_of t) c) n)

  pub audit_stood : (o : Option (ℕ × Side)) → o ≡ audit (figures_of t) (withheld_by (vec_items t.bench.covers)) → o ≡ audit (figures_of s) (withheld (figures_of s) (stands s))
  audit_stood o e =
      e ∙ ap (λ (F : Figures). audit F (withheld_by (vec_items t.bench.covers))) (same_table_figures s t same)
      ∙ ap (audit (figures_of s)) covers_stood
