-- What an office takes in, and what all its answers together are.
use Rattle.std.specs.Prelude.{◌≡◌, ℕ, cond, ◌⊎◌, List, [], ◌∷◌, ◌++◌, length, Ok, Err, MatchResult, Result, vec_items}
use Rattle.std.specs.Result.{result_and}
use Rattle.refusals.specs.declared.Refusal.{Refusal}
use Rattle.refusals.specs.declared.Refusal.TheVariants.{LayoutTooLarge, OutOfMemory}
use Rattle.layouts.specs.Shape.{Shape, Same}
use Rattle.layouts.specs.Admission.{admissible, shape_of}
use Rattle.layouts.specs.declared.memory.Contribution.{Contribution}
use Rattle.readings.specs.Exposure.{Figures}
use Rattle.intake.specs.declared.held.Intake.{Intake}
use Rattle.intake.specs.Chains.{held}
use Rattle.intake.specs.Contributions.{figure_of, need_of}
use Rattle.intake.specs.Entering.{enter_answer}
use Rattle.runs.specs.Runs.{Run}
use Rattle.runs.specs.Law.{Lawful}
use Rattle.office.specs.declared.acts.Act.{Act}
use Rattle.office.specs.declared.acts.Answer.{Answer}
use Rattle.office.specs.Histories.{history}

-- The layout's own answers, and for each cell the figure and the need that contributions give it by the meaning of a rule.
abbrev pub figures_by : Shape → (List ℕ → ℕ) → List Contribution → Figures
figures_by s meaning xs = record { shape = s; figure = figure_of s xs; need = need_of s meaning xs }

-- what is held once these are entered too, one after another; or the first refusal
abbrev pub entered_after : Shape → List Contribution → List Contribution → Result (List Contribution) Refusal
entered_after s held [] = Ok held
entered_after s held (x ∷ xs) = result_and (enter_answer s held x) (entered_after s (held ++ x ∷ []) xs)

abbrev pub entered : Shape → List Contribution → Result (List Contribution) Refusal
entered s xs = entered_after s [] xs

-- What filling an intake with this comes to: all of it is held then, or the filling is refused as it is; network and rule stay.
pub record Filled {R : Type 0} (asked : Result (List Contribution) Refusal) (before : Intake R) (r : Result (Unit {0}) Refusal) (after : Intake R) : Type 0 where
  pub taken : MatchResult r (λ _. asked ≡ Ok (held (vec_items after.chains.records))) (λ e. asked ≡ Err e)
  pub same : (after.network ≡ before.network) × (after.rule ≡ before.rule)

-- A filling does so with each intake that holds nothing, over each copy of the layout.
abbrev pub Fills : {R : Type 0} → Shape → Result (List Contribution) Refusal → (Intake R → Result (Unit {0}) Refusal → Intake R → Type 0) → Type 0
Fills {R} s asked fill =
    (before : Intake R) (r : Result (Unit {0}) Refusal) (after : Intake R) → held (vec_items before.chains.records) ≡ [] → Same s (shape_of before.network)
    → fill before r after → Filled asked before r after

-- a layout beyond the limits is not admitted, and then nothing is taken in
abbrev pub taken_in : Shape → Result (List Contribution) Refusal → Result (List Contribution) Refusal
taken_in s r = cond (admissible s) r (Err LayoutTooLarge)

-- Every act has its answer; together they are a run over these figures, and it keeps to the law.
pub record Ran (F : Figures) (acts : List Act) (answers : List (Result Answer Refusal)) : Type 0 where
  pub each : length answers ≡ length acts
  pub run : Run F (history acts answers)
  pub lawful : Lawful F (history acts answers)

-- There are answers only where everything was taken in.
abbrev pub Answers : Shape → (List ℕ → ℕ) → Result (List Contribution) Refusal → List Act → List (Result Answer Refusal) → Type 0
Answers s meaning (Ok xs) acts answers = Ran (figures_by s meaning xs) acts answers
Answers s meaning (Err e) acts answers = ⊥

-- All is refused for what was not taken in, or for want of memory.
abbrev pub Refuses : Result (List Contribution) Refusal → Refusal → Type 0
Refuses (Ok xs) r = r ≡ OutOfMemory
Refuses (Err e) r = (r ≡ e) ⊎ (r ≡ OutOfMemory)
