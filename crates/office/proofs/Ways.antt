-- One act more in a history, what a sheet has settled, and from the sheet's own run to the run of the layout.
use Rattle.std.proofs.Common.{◌≡◌, ℕ, ◌+◌, ◌<◌, ◌≤◌, List, [], ◌∷◌, ◌++◌, length, get_or, take, Result, sym, refl, ap, ◌∙◌, subst, arith, length-append}
use Rattle.std.proofs.lemmas.List.{take_all, take_more, length-take-le}
use Rattle.refusals.specs.declared.Refusal.{Refusal}
use Rattle.layouts.specs.Shape.{Laws}
use Rattle.layouts.proofs.Kept.{network_laws}
use Rattle.readings.specs.Exposure.{Figures}
use Rattle.runs.specs.Runs.{History, Run, Does, Came}
use Rattle.runs.specs.Pairs.{Settled}
use Rattle.runs.proofs.Calls.{calls_run}
use Rattle.runs.proofs.Lawful.{every_run_is_lawful}
use Rattle.sheet.specs.declared.held.Sheet.{Sheet}
use Rattle.sheet.specs.Sheets.{Acted, figures_of, stands}
use Rattle.sheet.proofs.Facts.{cells_few, within_at, small_at}
use Rattle.office.specs.declared.acts.Act.{Act}
use Rattle.office.specs.declared.acts.Answer.{Answer}
use Rattle.office.specs.Histories.{act_of, answer_of, gone_on, history}
use Rattle.office.specs.Office.{Ran}
use Rattle.office.proofs.Alike.{Alike, run_same, settled_same}

gone_on_more : (h : History) (acts : List Act) (answers : List (Result Answer Refusal)) (act : Act) (a : Result Answer Refusal) → length answers ≡ length acts
    → gone_on h (acts ++ act ∷ []) (answers ++ a ∷ []) ≡ (act_of act, answer_of a) ∷ gone_on h acts answers
gone_on_more h [] [] act a e = refl
gone_on_more h [] (b ∷ answers) act a e = grind arith
gone_on_more h (x ∷ acts) [] act a e = grind arith
gone_on_more h (x ∷ acts) (b ∷ answers) act a e = gone_on_more ((act_of x, answer_of b) ∷ h) acts answers act a (omega arith)

-- The first i acts of a list with their answers: they came by a run to this sheet, and its figures are the first sheet's.
pub record Come (F : Figures) (acts : List Act) (i : ℕ) (answers : List (Result Answer Refusal)) (sheet : Sheet) : Type 0 where
  pub each : length answers ≡ i
  pub same : figures_of sheet ≡ F
  pub came : Came F (history (take i acts) answers) (stands sheet)

pub come_more : (F : Figures) (acts : List Act) (i : ℕ) (answers more : List (Result Answer Refusal)) (before after : Sheet) (act : Act) (a : Result Answer Refusal) → i < length acts
    → act ≡ get_or acts i act → more ≡ answers ++ a ∷ [] → Come F acts i answers before → Acted before (act_of act) (answer_of a) after → Come F acts (i + 1) more after
come_more F acts i answers more before after act a l is pushed come acted = record {
  each = ap length pushed ∙ length-append answers (a ∷ []) ∙ ap (λ n. n + 1) come.each;
  same = acted.same_figures ∙ come.same;
  came = subst (λ h. Came F h (stands after)) (sym (longer ∙ gone_on_more [] (take i acts) answers act a (come.each ∙ sym (length-take-le i acts (omega arith)))))
      (calls_run.goes_on F (history (take i acts) answers) (stands before) (stands after) (act_of act) (answer_of a) come.came
      (subst (λ G. Does G (stands before) (act_of act) (answer_of a) (stands after)) come.same acted.does));
}
  where
    longer : history (take (i + 1) acts) more ≡ history (take i acts ++ act ∷ []) (answers ++ a ∷ [])
    longer = λ j. history ((take_more acts i act l ∙ ap (λ x. take i acts ++ x ∷ []) (sym is)) j) (pushed j)

-- WHAT A SHEET HAS SETTLED
pub sheet_settled : (s : Sheet) → Settled (figures_of s)
sheet_settled s = record {
  sound = record { left = (network_laws s.network).left; entered = (network_laws s.network).entered };
  few = cells_few s;
  balanced = s.tabled.balanced;
  within = within_at s;
  small = λ c l. omega (arith, small_at s c l);
}

pub ran : (F : Figures) → Settled F → (acts : List Act) (answers : List (Result Answer Refusal)) → length answers ≡ length acts → Run F (history acts answers) → Ran F acts answers
ran F ok acts answers each run = record { each = each; run = run; lawful = every_run_is_lawful F ok (history acts answers) run }

pub ran_alike : (F G : Figures) → Laws F.shape → Settled G → Alike F G → (acts : List Act) (answers : List (Result Answer Refusal)) → Ran G acts answers → Ran F acts answers
ran_alike F G laws ok like acts answers r =
    ran F (settled_same F G like (record { left = laws.left; entered = laws.entered }) ok) acts answers r.each (run_same F G like (history acts answers) r.run)

-- the end of the loop over the acts
pub come_all : (first : Sheet) (acts : List Act) (i : ℕ) (answers : List (Result Answer Refusal)) (sheet : Sheet) → length acts ≤ i → i ≤ length acts
    → Come (figures_of first) acts i answers sheet → Ran (figures_of first) acts answers
come_all first acts i answers sheet past upto come =
    ran (figures_of first) (sheet_settled first) acts answers (come.each ∙ omega arith)
    (subst (λ xs. Run (figures_of first) (history xs answers)) (take_all i acts past) come.came.run)
