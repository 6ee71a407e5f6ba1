-- What a job's input holds, and the last answer of the run that searches and then prints.
use Rattle.std.proofs.Common.{◌≡◌, ℕ, ◌*◌, ◌-◌, ◌<◌, ◌≤◌, ⊎_elim, get_or, cond, ◌⊎◌, List, [], ◌∷◌, length, vec_items, vec_len, Some, None, Ok, Err, MatchResult, Option, Result, Vec, sym, refl, subst, ap, ◌∙◌, inl, inr, arith}
use Rattle.std.proofs.lemmas.Bool.{le-ltb}
use Rattle.std.proofs.lemmas.Bool.Decides.{nat_tests}
use Rattle.std.specs.declared.alloc.Global.{Global}
use Rattle.refusals.specs.declared.Side.{Side}
use Rattle.refusals.specs.declared.Refusal.{Refusal}
use Rattle.refusals.specs.declared.Refusal.TheVariants.{OutOfMemory, Exposed, MemorySize}
use Rattle.layouts.specs.Shape.{Shape}
use Rattle.layouts.specs.declared.memory.Contribution.{Contribution}
use Rattle.readings.specs.Exposure.{Figures, audit}
use Rattle.runs.specs.Acts as runs
use Rattle.runs.specs.Acts.{Right, Standing, fresh, page_of, searched, withheld, exposure, refusal, step, unless, print, page, seek}
use Rattle.runs.specs.Law.{RefusedWith}
use Rattle.office.specs.Office.{Answers, Ran, Refuses, figures_by, taken_in}
use Rattle.office.specs.declared.acts.Act.{Act}
use Rattle.office.specs.declared.acts.Act.TheVariants.{Search, Print}
use Rattle.office.specs.declared.acts.Answer.{Answer}
use Rattle.office.specs.declared.acts.Answer.TheVariants.{Count, Page, Table}
use Rattle.office.specs.Histories.{answer_of}
use Rattle.settings.specs.declared.choices.Settings.{Settings}
use Rattle.intake.specs.Deposit.{deposited}
use Rattle.settings.specs.Asked.{shape_asked}
use Rattle.job.specs.Chosen.{meaning_asked}
use Rattle.job.specs.Job.{figures_asked, page_in, too_large}
use Rattle.job.proofs.Ranges.{passed_admissible}

-- a print that is not refused as exposed, with memory enough, delivers its page
shown_page : (o : Option (ℕ × Side)) (a : runs.Answer) (p : List ℕ) → a ≡ unless (exposure o) (page p) → (RefusedWith 11 a → ⊥) → a ≡ page p
shown_page None a p is safe = is
shown_page (Some e) a p is safe = absurd (safe (Exposed e.0 e.1, is, refl))

delivered : (F : Figures) (st : Standing) (a : runs.Answer) (memory : ℕ) → 19 * F.shape.cells ≤ memory → Right F st (print memory) a → (RefusedWith 11 a → ⊥) → a ≡ page (page_of F st)
delivered F st a memory fits right =
    shown_page (audit F (withheld F st)) a (page_of F st)
    (right ∙ ap (λ b. unless (cond b (Some MemorySize) (exposure (audit F (withheld F st)))) (page (page_of F st))) (le-ltb memory (19 * F.shape.cells) fits))

-- an answer that stands for a page holds it
holds_page : (a : Result Answer Refusal) (p : List ℕ) → answer_of a ≡ page p → (v : Vec ℕ Global) × (a ≡ Ok (Page v)) × (vec_items v ≡ p)
holds_page (Ok (Page v)) p e = (v, refl, cc)
holds_page (Ok (Count n)) p e = absurd cc
holds_page (Ok (Table t)) p e = absurd cc
holds_page (Err r) p e = absurd cc

page_in_cases : (a : Result Answer Refusal) → MatchResult (page_in a) (λ p. a ≡ Ok (Page p)) (λ e. e ≡ OutOfMemory)
page_in_cases (Err r) = refl
page_in_cases (Ok (Count n)) = refl
page_in_cases (Ok (Page p)) = refl
page_in_cases (Ok (Table figures)) = refl

-- the page found in an answer is the answer's, and nothing but OutOfMemory stands for another
pub page_found : (a : Result Answer Refusal) (r : Result (Vec ℕ Global) Refusal) → r ≡ page_in a → MatchResult r (λ p. a ≡ Ok (Page p)) (λ e. e ≡ OutOfMemory)
page_found a r e = rw e (page_in_cases a)

-- The last of the answers to a search and a print holds the page of the searched standing.
pub last_page : (F : Figures) (answers : List (Result Answer Refusal)) (last : Option (Result Answer Refusal)) → F.shape.cells ≤ 512
    → Ran F (Search ∷ Print 9728 ∷ []) answers → ((d : Result Answer Refusal) → 0 < length answers → last ≡ Some (get_or answers (length answers - 1) d))
    → (v : Vec ℕ Global) × (last ≡ Some (Ok (Page v))) × (vec_items v ≡ page_of F (searched F fresh))
last_page F [] last few ran is = absurd (omega (arith, ran.each))
last_page F (x ∷ []) last few ran is = absurd (omega (arith, ran.each))
last_page F (x ∷ y ∷ z ∷ more) last few ran is = absurd (omega (arith, ran.each))
last_page F (x ∷ y ∷ []) last few ran is =
    let st = step F fresh seek (answer_of x) in
    let stood : st ≡ searched F fresh = ap (step F fresh seek) ran.run.0.1 in
    let held = holds_page y (page_of F st) (delivered F st (answer_of y) 9728 (omega arith) ran.run.1 (ran.lawful.2.after_search tt)) in
    (held.0, is x (omega arith) ∙ ap Some held.1, held.2 ∙ ap (page_of F) stood)

-- the office refuses what was not taken in, or for want of memory
pub refused_by : (r : Result (List Contribution) Refusal) (e : Refusal) → Refuses r e → (r ≡ Err e) ⊎ (e ≡ OutOfMemory)
refused_by (Ok xs) e h = inr h
refused_by (Err x) e h = ⊎_elim (λ (is : e ≡ x). inl (ap Err (sym is))) (λ (m : e ≡ OutOfMemory). inr m) h

-- and answers only what was
pub answered_by : (s : Shape) (meaning : List ℕ → ℕ) (r : Result (List Contribution) Refusal) (acts : List Act) (answers : List (Result Answer Refusal))
    → Answers s meaning r acts answers → (xs : List Contribution) × (r ≡ Ok xs) × Ran (figures_by s meaning xs) acts answers
answered_by s meaning (Ok xs) acts answers ran = (xs, refl, ran)
answered_by s meaning (Err e) acts answers ran = absurd ran

-- The layout has the shape that is asked for, and the job is not too large.
module _ (s : Settings) (size : ℕ) (t : Shape) (lay : t ≡ shape_asked s.layout) (passed : too_large t size ≡ None) (b : List ℕ) where
  taken : taken_in t (deposited t 0 b) ≡ deposited (shape_asked s.layout) 0 b
  taken = rw (passed_admissible t size passed) (ap (λ u. deposited u 0 b) lay)

  few : (shape_asked s.layout).cells ≤ 512
  few = let fits = passed_admissible t size passed in grind (arith, nat_tests, ap (λ (u : Shape). u.cells) lay)

  pub deposit_refused : (e : Refusal) → Refuses (taken_in t (deposited t 0 b)) e → (deposited (shape_asked s.layout) 0 b ≡ Err e) ⊎ (e ≡ OutOfMemory)
  deposit_refused e h = refused_by (deposited (shape_asked s.layout) 0 b) e (subst (λ r. Refuses r e) taken h)

  pub page_printed : (m : List ℕ → ℕ) → ((ys : List ℕ) → m ys ≡ meaning_asked s.rule ys) → (answers : Vec (Result Answer Refusal) Global) (last : Option (Result Answer Refusal))
      → Answers t m (taken_in t (deposited t 0 b)) (Search ∷ Print 9728 ∷ []) (vec_items answers)
      → ((d : Result Answer Refusal) → 0 < vec_len answers → last ≡ Some (get_or (vec_items answers) (vec_len answers - 1) d))
      → (xs : List Contribution) × (deposited (shape_asked s.layout) 0 b ≡ Ok xs)
      × (v : Vec ℕ Global) × (last ≡ Some (Ok (Page v))) × (vec_items v ≡ page_of (figures_asked s xs) (searched (figures_asked s xs) fresh))
  page_printed m meant answers last h value =
      let acts : List Act = Search ∷ Print 9728 ∷ [] in
      let got = answered_by t m (deposited (shape_asked s.layout) 0 b) acts (vec_items answers) (subst (λ r. Answers t m r acts (vec_items answers)) taken h) in
      let figures : figures_by t m got.0 ≡ figures_asked s got.0 = λ i. figures_by (lay i) (λ ys. meant ys i) got.0 in
      let page = last_page (figures_asked s got.0) (vec_items answers) last few (subst (λ F. Ran F acts (vec_items answers)) figures got.2)
      (subst (λ n. (d : Result Answer Refusal) → 0 < n → last ≡ Some (get_or (vec_items answers) (n - 1) d)) answers.ok.0 value) in
      (got.0, got.1, page.0, page.1, page.2)
