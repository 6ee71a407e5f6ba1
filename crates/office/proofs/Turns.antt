-- One contribution after another; what an office then has taken in; and acts whose memory is cut to what they can use.
use Rattle.std.proofs.Common.{◌≡◌, ℕ, ◌*◌, ◌≤◌, min, true, cond, ltb, List, [], length, Some, Ok, Err, sum, IsOkAnd, MatchResult, MutBor, Result, vec_items, sym, refl, ap, ◌∙◌, subst, inl, arith}
use Rattle.std.proofs.lemmas.Bool.Decides.{nat_tests}
use Rattle.std.proofs.lemmas.Bool.{cond-true}
use Rattle.std.proofs.lemmas.Result.{MatchResult-weaker, MatchResult-at_ok, MatchResult-at_err}
use Rattle.std.specs.Fn.{Once, FnOnceReturnsAtMut}
use Rattle.std.specs.Result.{result_and}
use Rattle.refusals.specs.declared.Refusal.{Refusal}
use Rattle.refusals.specs.declared.Refusal.TheVariants.{MemorySize, LayoutTooLarge}
use Rattle.refusals.specs.Refusals.{side_of}
use Rattle.layouts.specs.Shape.{Shape, Laws, Same}
use Rattle.layouts.specs.Admission.{shape_of, admissible}
use Rattle.layouts.specs.declared.network.Network.{Network}
use Rattle.layouts.specs.declared.memory.Contribution.{Contribution}
use Rattle.readings.specs.Exposure.{Figures, audit}
use Rattle.readings.specs.Rows.{looked_at}
use Rattle.intake.specs.declared.held.Intake.{Intake}
use Rattle.intake.specs.Chains.{held}
use Rattle.intake.specs.Deposit.{deposited, record_count, held_then}
use Rattle.intake.specs.Settling.{settled_rows}
use Rattle.intake.proofs.Figures.{AtLeaves}
use Rattle.runs.specs.Acts.{print, witness, Answer, refused, count, page, table, Act, Standing, step, accepted, Right, exposure, withheld, page_of, refusal, unless, WitnessAnswer, Witnesses}
use Rattle.sheet.specs.declared.held.Sheet.{Sheet}
use Rattle.sheet.specs.Sheets.{Acted, figures_of, rows_of, stands}
use Rattle.sheet.proofs.Facts.{cells_few}
use Rattle.office.specs.declared.acts.Answer as code
use Rattle.office.specs.declared.acts.Act as asked
use Rattle.office.specs.Histories.{answer_of}
use Rattle.office.specs.Office.{figures_by, entered, entered_after, taken_in, Filled, Fills, Ran, Answers, Refuses}
use Rattle.office.proofs.Alike.{Alike}
use Rattle.office.proofs.Taking.{entered_same, deposited_same, alike}

-- WHAT IS TAKEN IN
pub same_at : (s : Shape) (n m : Network) → m ≡ n → Same s (shape_of n) → Same s (shape_of m)
same_at s n m e same = subst (λ k. Same s (shape_of k)) (sym e) same

pub taken_as : (s : Shape) → admissible s ≡ true → (asked r : Result (List Contribution) Refusal) → asked ≡ r → taken_in s asked ≡ r
taken_as s fits asked r is = cond-true (admissible s) asked (Err LayoutTooLarge) fits ∙ is

-- FILLING
-- a filling is called at a lent intake
pub fills_from : {F R : Type 0} (g : Once F (MutBor (Intake R) × Unit {0}) (Result (Unit {0}) Refusal × (MutBor (Intake R) × Unit {0}))) (f : F)
    (s : Shape) (asked : Result (List Contribution) Refusal)
    → ((p q : MutBor (Intake R)) (r : Result (Unit {0}) Refusal) → held (vec_items p.now.chains.records) ≡ [] → Same s (shape_of p.now.network)
    → g.post f (p, tt) (r, (q, tt)) → Filled asked p.now r q.now)
    → Fills s asked (FnOnceReturnsAtMut g f)
fills_from {F} {R} g f s asked fills before r after none same k =
    subst (λ a. Filled asked before r a) k.leaves
    (subst (λ b. Filled asked b r k.left.now) k.shows
    (fills k.shown k.left r (ap (λ (b : Intake R). held (vec_items b.chains.records)) k.shows ∙ none) (subst (λ b. Same s (shape_of b.network)) (sym k.shows) same) k.met))

module _ {R : Type 0} (s : Shape) (before after : Intake R) (r : Result (Unit {0}) Refusal) (none : held (vec_items before.chains.records) ≡ [])
    (same : Same s (shape_of before.network)) (kept : (after.network ≡ before.network) × (after.rule ≡ before.rule)) where
  pub filled_entered : (xs : List Contribution)
      → MatchResult r (λ _. entered_after (shape_of before.network) (held (vec_items before.chains.records)) xs ≡ Ok (held (vec_items after.chains.records)))
      (λ e. entered_after (shape_of before.network) (held (vec_items before.chains.records)) xs ≡ Err e)
      → Filled (entered s xs) before r after
  filled_entered xs taken = record {
    taken = MatchResult-weaker r taken (λ _ e. copied ∙ e) (λ _ e. copied ∙ e);
    same = kept;
  }
    where
      copied : entered s xs ≡ entered_after (shape_of before.network) (held (vec_items before.chains.records)) xs
      copied = sym (entered_same s (shape_of before.network) same [] xs) ∙ ap (λ ys. entered_after (shape_of before.network) ys xs) (sym none)

  pub filled_loaded : (bytes : List ℕ)
      → held (vec_items after.chains.records) ≡ held_then (deposited (shape_of before.network) (length (held (vec_items before.chains.records))) bytes) (held (vec_items before.chains.records))
      → (q : Result ℕ Refusal) × (q ≡ result_and (deposited (shape_of before.network) (length (held (vec_items before.chains.records))) bytes) (Ok (record_count bytes)))
      × MatchResult q (λ _. r ≡ Ok tt) (λ e. r ≡ Err e)
      → Filled (deposited s 0 bytes) before r after
  filled_loaded bytes now_held (q, is, maps) = record {
    taken = go (deposited s 0 bytes) refl;
    same = kept;
  }
    where
      copied : deposited (shape_of before.network) (length (held (vec_items before.chains.records))) bytes ≡ deposited s 0 bytes
      copied = ap (λ ys. deposited (shape_of before.network) (length ys) bytes) none ∙ deposited_same s (shape_of before.network) same 0 bytes

      go : (d : Result (List Contribution) Refusal) → deposited s 0 bytes ≡ d → MatchResult r (λ _. deposited s 0 bytes ≡ Ok (held (vec_items after.chains.records))) (λ e. deposited s 0 bytes ≡ Err e)
      go (Ok xs) e =
          let loaded = MatchResult-at_ok (λ _. r ≡ Ok tt) (λ e. r ≡ Err e) _ (is ∙ ap (λ d. result_and d (Ok (record_count bytes))) (copied ∙ e)) maps in
          let holds : held (vec_items after.chains.records) ≡ xs = now_held ∙ (λ i. held_then ((copied ∙ e) i) (none i)) in
          rw loaded (e ∙ ap Ok (sym holds))
      go (Err x) e =
          let refuses = MatchResult-at_err (λ _. r ≡ Ok tt) (λ e. r ≡ Err e) _ (is ∙ ap (λ d. result_and d (Ok (record_count bytes))) (copied ∙ e)) maps in
          rw refuses e

pub answers_by : (s : Shape) (m n : List ℕ → ℕ) → m ≡ n → (taken : Result (List Contribution) Refusal) (xs : List Contribution) → taken ≡ Ok xs
    → (acts : List asked.Act) (answers : List (Result code.Answer Refusal)) → Ran (figures_by s m xs) acts answers → Answers s n taken acts answers
answers_by s m n e taken xs is acts answers ran =
    subst (λ r. Answers s n r acts answers) (sym is) (subst (λ k. Ran (figures_by s k xs) acts answers) e ran)

pub refuses_with : (taken : Result (List Contribution) Refusal) (r e : Refusal) → taken ≡ Err r → e ≡ r → Refuses taken e
refuses_with taken r e is same = subst (λ x. Refuses x e) (sym is) (inl same)

-- the sheet of an intake over a copy of the layout
pub settled_alike : (s : Shape) → Laws s → (n : Network) (sheet : Sheet) → sheet.network ≡ n → Same s (shape_of n) → (meaning : List ℕ → ℕ)
    → ((ys : List ℕ) → meaning ys ≤ sum ys) → (xs : List Contribution) → AtLeaves (shape_of n) xs → rows_of sheet ≡ settled_rows (shape_of n) meaning xs
    → Alike (figures_by s meaning xs) (figures_of sheet)
settled_alike s laws n sheet e same meaning bound xs at rows =
    subst (λ m. Alike (figures_by s meaning xs) (looked_at (shape_of m) (rows_of sheet))) (sym e) (alike s (shape_of n) same laws meaning bound xs at (rows_of sheet) rows)

-- ANSWERS
-- what a call on the sheet gives, and what an answer is then made of
pub answer_made : (r : Result ℕ Refusal) (m : Result code.Answer Refusal) (P : ℕ → code.Answer → Type 0) (f : Result ℕ Refusal → Answer)
    → MatchResult r (λ n. IsOkAnd m (P n)) (λ e. m ≡ Err e) → ((n : ℕ) (a : code.Answer) → P n a → f (Ok n) ≡ answer_of (Ok a))
    → ((e : Refusal) → f (Err e) ≡ refused e) → f r ≡ answer_of m
answer_made (Ok n) (Ok a) P f is made same = made n a is
answer_made (Ok n) (Err e) P f is made same = absurd is
answer_made (Err e) m P f is made same = same e ∙ sym (ap answer_of is)

-- MEMORY
-- more than enough is as good as enough
pub cut_test : (memory most size : ℕ) → size ≤ most → ltb (min memory most) size ≡ ltb memory size
cut_test memory most size l = grind (arith, nat_tests)

module _ (before after : Sheet) (a : Answer) where
  -- what an act leads to where it has this answer, but for why it is refused
  step_same : (F : Figures) (st : Standing) (x y : Act) → accepted F st x ≡ accepted F st y → (a : Answer) → step F st x a ≡ step F st y a
  step_same F st x y e (refused r) = refl
  step_same F st x y e (count n) = e
  step_same F st x y e (page p) = e
  step_same F st x y e (table t) = e

  -- a call for one act does another, if that has the same right answer and leads to the same
  acted_as : (x y : Act) → accepted (figures_of before) (stands before) x ≡ accepted (figures_of before) (stands before) y
      → (Right (figures_of before) (stands before) x a → Right (figures_of before) (stands before) y a) → Acted before x a after → Acted before y a after
  acted_as x y e right acted = record {
    does = record { right = right acted.does.right; leaves = acted.does.leaves ∙ step_same (figures_of before) (stands before) x y e a };
    same_network = acted.same_network;
    same_figures = acted.same_figures;
    same_rows = acted.same_rows;
  }

  -- a print that was handed k bytes in place of so many
  pub printed_in : (memory k : ℕ) → k ≡ min memory 9728 → Acted before (print k) a after → Acted before (print memory) a after
  printed_in memory k is =
      let F = figures_of before in
      let st = stands before in
      let test : ltb k (19 * F.shape.cells) ≡ ltb memory (19 * F.shape.cells) =
      ap (λ x. ltb x (19 * F.shape.cells)) is ∙ cut_test memory 9728 (19 * F.shape.cells) (omega (arith, cells_few before)) in
      acted_as (print k) (print memory) refl
      (λ right. right ∙ (λ i. unless (cond (test i) (Some MemorySize) (exposure (audit F (withheld F st)))) (page (page_of F st))))

  -- a witness that was handed room for k figures in place of so many
  pub witnessed_in : (c side memory k : ℕ) → k ≡ min memory 512 → Acted before (witness c side k) a after → Acted before (witness c side memory) a after
  witnessed_in c side memory k is =
      let F = figures_of before in
      let st = stands before in
      let test : ltb k F.shape.cells ≡ ltb memory F.shape.cells =
      ap (λ x. ltb x F.shape.cells) is ∙ cut_test memory 512 F.shape.cells (cells_few before) in
      let reason : refusal F st (witness c side k) ≡ refusal F st (witness c side memory) = rw test in
      acted_as (witness c side k) (witness c side memory) refl (subst (λ o. WitnessAnswer o (Witnesses F st c (side_of side)) a) reason)
