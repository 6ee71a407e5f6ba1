-- What a job's input holds, the page that it comes to, and why it is refused.
use Rattle.std.specs.Prelude.{◌≡◌, ℕ, cond, not, List, length, Some, None, Ok, Err, Option, Result, Vec, nat_lt}
use Rattle.std.specs.declared.alloc.Global.{Global}
use Rattle.refusals.specs.declared.Refusal.{Refusal}
use Rattle.refusals.specs.declared.Refusal.TheVariants.{LayoutSize, RuleRange, LayoutTooLarge, DepositLength, SettingsForm, OutOfMemory}
use Rattle.layouts.specs.Shape.{Shape}
use Rattle.layouts.specs.Admission.{admissible}
use Rattle.layouts.specs.declared.memory.Contribution.{Contribution}
use Rattle.readings.specs.Exposure.{Figures}
use Rattle.settings.specs.Asked.{shape_asked}
use Rattle.settings.specs.Line.{settings_text, ShortSettings}
use Rattle.settings.specs.Reading.{Opens, Never}
use Rattle.settings.specs.declared.choices.Settings.{Settings}
use Rattle.intake.specs.Deposit.{deposited}
use Rattle.runs.specs.Acts.{fresh, page_of, searched}
use Rattle.office.specs.Office.{figures_by}
use Rattle.office.specs.declared.acts.Answer.{Answer}
use Rattle.office.specs.declared.acts.Answer.TheVariants.{Count, Page, Table}
use Rattle.job.specs.Chosen.{layout_range, meaning_asked, rule_range}

-- why a job is refused for its size, if it is
abbrev pub too_large : Shape → ℕ → Option Refusal
too_large s size = cond (not (admissible s)) (Some LayoutTooLarge) (cond (nat_lt 40000 size) (Some DepositLength) None)

-- why a job is refused before its deposit is looked at, if it is
abbrev pub early : Settings → ℕ → Option Refusal
early s size =
    cond (not (layout_range s.layout)) (Some LayoutSize)
    (cond (not (rule_range s.rule)) (Some RuleRange) (too_large (shape_asked s.layout) size))

-- the figures and needs of contributions under the layout and the rule that the settings name
abbrev pub figures_asked : Settings → List Contribution → Figures
figures_asked s xs = figures_by (shape_asked s.layout) (meaning_asked s.rule) xs

-- The input is a settings line within all ranges and then a deposit; the page shows all of its figures but the sensitive ones and those
-- that a search from no complements adds.
pub record Printed (input page : List ℕ) : Type 0 where
  pub settings : Settings
  pub rest : List ℕ
  pub contributions : List Contribution
  pub line : Opens ShortSettings settings_text input settings rest
  pub ranges : early settings (length input) ≡ None
  pub deposit : deposited (shape_asked settings.layout) 0 rest ≡ Ok contributions
  pub bytes : page ≡ page_of (figures_asked settings contributions) (searched (figures_asked settings contributions) fresh)

-- The input is refused with e: for its line, for a range, or for its deposit; or its line is within all ranges, and there is not memory enough.
pub data Refused (input : List ℕ) (e : Refusal) : Type 0 where
  for_line : Never ShortSettings settings_text input → e ≡ SettingsForm → Refused input e
  for_range : (s : Settings) (rest : List ℕ) → Opens ShortSettings settings_text input s rest → early s (length input) ≡ Some e → Refused input e
  for_deposit : (s : Settings) (rest : List ℕ) → Opens ShortSettings settings_text input s rest → early s (length input) ≡ None
      → deposited (shape_asked s.layout) 0 rest ≡ Err e → Refused input e
  for_memory : (s : Settings) (rest : List ℕ) → Opens ShortSettings settings_text input s rest → early s (length input) ≡ None → e ≡ OutOfMemory → Refused input e

-- what a check for such a reason answers
abbrev pub unless_refused : Option Refusal → Result (Unit {0}) Refusal
unless_refused None = Ok tt
unless_refused (Some e) = Err e

-- the page in an answer; want of memory stands for what holds none
abbrev pub page_in : Result Answer Refusal → Result (Vec ℕ Global) Refusal
page_in (Err r) = Err OutOfMemory
page_in (Ok (Count n)) = Err OutOfMemory
page_in (Ok (Page page)) = Ok page
page_in (Ok (Table figures)) = Err OutOfMemory
