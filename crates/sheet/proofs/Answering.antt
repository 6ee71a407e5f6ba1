-- Answers, and what a call owes that began by setting the covers.
use Rattle.std.proofs.Common.{◌≡◌, None, Ok, Some, Option, Result, refl, ap, ◌∙◌, subst}
use Rattle.refusals.specs.declared.Refusal.{Refusal}
use Rattle.readings.specs.Exposure.{Figures}
use Rattle.runs.specs.Acts.{Act, Answer, Standing}
use Rattle.runs.specs.Runs.{Does}
use Rattle.sheet.specs.declared.held.Sheet.{Sheet}
use Rattle.sheet.specs.Calls.{answered}
use Rattle.sheet.specs.Sheets.{figures_of, stands, Acted}
use Rattle.sheet.specs.Standing.{standing_of}
use Rattle.sheet.specs.Trying.{SameTable}
use Rattle.sheet.proofs.Facts.{same_table_figures}

-- what is accepted has no reason against it
pub no_reason : (o : Option Refusal) → ◌≡◌ {A = Result (Unit {0}) Refusal} (Ok tt) (answered o tt) → o ≡ None
no_reason (Some s) e = cc
no_reason None e = refl

-- what acts on the sheet with its covers set has acted on the sheet
pub acted_on : (s t after : Sheet) (act : Act) (a : Answer) → SameTable s t → Acted t act a after → Acted s act a after
acted_on s t after act a same acted = record {
  does =
      subst (λ (F : Figures). Does F (stands s) act a (stands after)) (same_table_figures s t same)
      (subst (λ (st : Standing). Does (figures_of t) st act a (stands after)) (ap standing_of same.same_rows) acted.does);
  same_network = acted.same_network ∙ same.same_network;
  same_figures = acted.same_figures ∙ same_table_figures s t same;
  same_rows = λ r e. acted.same_rows r e ∙ same.same_rows;
}
