-- Figures that agree on the cells of layouts with the same answers have the same runs.
use Rattle.std.proofs.Common.{◌≡◌, ℕ, zero, suc, ◌+◌, ◌*◌, ◌^◌, ◌<◌, ◌≤◌, Bool, false, cond, not, ◌&&◌, ◌||◌, eqb, ltb, leb, List, [], ◌∷◌, length, get_or, is_some, Some, None, Option, sym, refl, ap, ◌∙◌, subst, arith}
use mathlib.Core.Path.{fun_ext}
use Rattle.std.proofs.lemmas.Bool.Decides.{nat_tests}
use Rattle.refusals.specs.declared.Side.{Side}
use Rattle.refusals.specs.declared.Side.TheVariants.{Up, Down}
use Rattle.refusals.specs.declared.Refusal.{Refusal}
use Rattle.refusals.specs.declared.Refusal.TheVariants.{MemorySize, UnknownCell, AlreadyPrinted}
use Rattle.refusals.specs.Refusals.{side_of}
use Rattle.sums.specs.Sums.{sum_below, count_below, among}
use Rattle.sums.proofs.SumBelow.{sum_same, count_same}
use Rattle.layouts.specs.Shape.{Shape, Same}
use Rattle.page.specs.Page.{page as bytes}
use Rattle.readings.specs.Balance.{Balanced, Sound}
use Rattle.readings.specs.Readings.{Away}
use Rattle.readings.specs.Exposure.{Figures, behind, ahead, besides, raised_out, lowered_out, any_below, any_set, is_wall, is_exposed, sensitive, is_told, exposure_at, or_else, first_from, audit}
use Rattle.runs.specs.Acts.{Act, withhold, seek, print, witness, Answer, refused, count, page, table, Standing, opened, exposure, withheld, bare, shown, newly, closed, reopened, reopen, searched, bad_entry, refusal, accepted, step, complements, Witnesses, unless, WitnessAnswer, Right}
use Rattle.runs.specs.Runs.{History, standing, Run}
use Rattle.runs.specs.Pairs.{Settled}

-- ANY, FIRST, EVERY SET
any_below_same : (n : ℕ) (p q : ℕ → Bool) → ((c : ℕ) → c < n → p c ≡ q c) → any_below n p ≡ any_below n q
unfolding any_below
any_below_same zero p q e = refl
any_below_same (suc n) p q e = λ i. any_below_same n p q (λ c l. e c (omega arith)) i || e n (omega arith) i

first_from_same : {A : Type 0} (n k : ℕ) (f g : ℕ → Option A) → ((c : ℕ) → c < k + n → f c ≡ g c) → first_from n k f ≡ first_from n k g
unfolding first_from
first_from_same zero k f g e = refl
first_from_same (suc n) k f g e = λ i. or_else (e k (omega arith) i) (first_from_same n (suc k) f g (λ c l. e c (omega arith)) i)

-- EXPOSURE
module _ (s t : Shape) (same : Same s t) where
  behind_same : (side : Side) (c : ℕ) → c < s.cells → behind t side c ≡ behind s side c
  behind_same Up c l = same.leaves c l
  behind_same Down c l = same.enters c l

  ahead_same : (side : Side) (c : ℕ) → c < s.cells → ahead t side c ≡ ahead s side c
  ahead_same Up c l = same.enters c l
  ahead_same Down c l = same.leaves c l

  sums_same : (f g : ℕ → ℕ) → ((c : ℕ) → c < s.cells → f c ≡ g c) → sum_below t.cells f ≡ sum_below s.cells g
  sums_same f g e = ap (λ n. sum_below n f) same.cells ∙ sum_same s.cells f g e

  pub balanced_same : (x y : ℕ → ℕ) → ((c : ℕ) → c < s.cells → x c ≡ y c) → Balanced t x → Balanced s y
  balanced_same x y e bal r l =
      sym (sums_same (λ c. cond (eqb (t.enters c) r) (x c) 0) (λ c. cond (eqb (s.enters c) r) (y c) 0) (λ c h i. cond (eqb (same.enters c h i) r) (e c h i) 0))
      ∙ bal r (omega (arith, same.relations))
      ∙ sums_same (λ c. cond (eqb (t.leaves c) r) (x c) 0) (λ c. cond (eqb (s.leaves c) r) (y c) 0) (λ c h i. cond (eqb (same.leaves c h i) r) (e c h i) 0)

  module _ (w w' : ℕ → Bool) (ws : (c : ℕ) → c < s.cells → w' c ≡ w c) (v v' : ℕ → ℕ) (vs : (c : ℕ) → c < s.cells → v' c ≡ v c) where
    besides_same : (a c : ℕ) → c < s.cells → besides w' a c ≡ besides w a c
    besides_same a c l = λ i. ws c l i && not (eqb c a)

    wall_same : (k k' : ℕ) → k' ≡ k → (a : ℕ) → a < s.cells → (side : Side) (S : ℕ → Bool) → is_wall t w' v' k' a side S ≡ is_wall s w v k a side S
    wall_same k k' ks a l side S =
        let raised : any_below t.cells (raised_out t side (besides w' a) S) ≡ any_below s.cells (raised_out s side (besides w a) S) =
        ap (λ n. any_below n (raised_out t side (besides w' a) S)) same.cells
        ∙ any_below_same s.cells (raised_out t side (besides w' a) S) (raised_out s side (besides w a) S)
        (λ c h i. besides_same a c h i && (S (behind_same side c h i) && not (S (ahead_same side c h i)))) in
        let lowered : sum_below t.cells (λ c. cond (lowered_out t side (besides w' a) S c) (v' c) 0) ≡ sum_below s.cells (λ c. cond (lowered_out s side (besides w a) S c) (v c) 0) =
        sums_same (λ c. cond (lowered_out t side (besides w' a) S c) (v' c) 0) (λ c. cond (lowered_out s side (besides w a) S c) (v c) 0)
        (λ c h i. cond (besides_same a c h i && (S (ahead_same side c h i) && not (S (behind_same side c h i)))) (vs c h i) 0) in
        λ i. ((S (same.enters a l i) && not (S (same.leaves a l i))) && not (raised i)) && ltb (lowered i) (ks i)

    exposed_same : (k k' : ℕ) → k' ≡ k → (a : ℕ) → a < s.cells → (side : Side) → is_exposed t w' v' k' a side ≡ is_exposed s w v k a side
    unfolding is_exposed
    exposed_same k k' ks a l side = λ i. any_set (same.relations i) (fun_ext (wall_same k k' ks a l side) i)

-- Two sheets of figures: layouts with the same answers, and on their cells the same figures and needs.
pub record Alike (F G : Figures) : Type 0 where
  pub shape : Same F.shape G.shape
  pub figure : (c : ℕ) → c < F.shape.cells → G.figure c ≡ F.figure c
  pub need : (c : ℕ) → c < F.shape.cells → G.need c ≡ F.need c

module _ (F G : Figures) (like : Alike F G) where
  cells : G.shape.cells ≡ F.shape.cells
  cells = like.shape.cells

  -- THE AUDIT
  module _ (w w' : ℕ → Bool) (ws : (c : ℕ) → c < F.shape.cells → w' c ≡ w c) where
    told_same : (c : ℕ) → c < F.shape.cells → (side : Side) → is_told G w' c side ≡ is_told F w c side
    told_same c l side =
        let e = exposed_same F.shape G.shape like.shape w w' ws F.figure G.figure like.figure (F.need c) (G.need c) (like.need c l) c l side in
        λ i. ltb 0 (like.need c l i) && e i

    exposed_at_same : (c : ℕ) → c < F.shape.cells → exposure_at G w' c ≡ exposure_at F w c
    exposed_at_same c l = λ i. cond (told_same c l Up i) (Some (c, Up)) (cond (told_same c l Down i) (Some (c, Down)) None)

    audit_same : audit G w' ≡ audit F w
    audit_same =
        ap (λ m. first_from m 0 (exposure_at G w')) cells
        ∙ first_from_same F.shape.cells 0 (exposure_at G w') (exposure_at F w) (λ c l. exposed_at_same c (omega arith))

  -- STANDINGS
  withheld_same : (st : Standing) (c : ℕ) → c < F.shape.cells → withheld G st c ≡ withheld F st c
  withheld_same st c l = λ i. ltb 0 (like.need c l i) || st.complement c

  bare_same : (st : Standing) (c : ℕ) → bare G st c ≡ bare F st c
  bare_same st c = grind (arith, nat_tests, withheld_same st c, cells)

  shown_same : (st : Standing) (c : ℕ) → shown G st c ≡ shown F st c
  shown_same st c = grind (arith, nat_tests, bare_same st c, like.figure c)

  newly_same : (st : Standing) → newly G st ≡ newly F st
  newly_same st = fun_ext (λ c i. bare_same st c i && not (st.printed c))

  closed_same : (st : Standing) → closed G st ≡ closed F st
  closed_same st = λ i. record { complement = λ c. st.complement c || newly_same st i c; printed = st.printed }

  reopened_same : (new : ℕ → Bool) (c : ℕ) (st : Standing) → reopened G new c st ≡ reopened F new c st
  reopened_same new c st =
      let e = audit_same (withheld F (opened c st)) (withheld G (opened c st)) (withheld_same (opened c st)) in
      λ i. cond (new c && not (is_some (e i))) (opened c st) st

  reopen_same : (new : ℕ → Bool) (m : ℕ) (st : Standing) → reopen G new m st ≡ reopen F new m st
  reopen_same new zero st = refl
  reopen_same new (suc c) st = ap (reopen G new c) (reopened_same new c st) ∙ reopen_same new c (reopened F new c st)

  searched_same : (st : Standing) → searched G st ≡ searched F st
  searched_same st = reopen_same (newly G st) G.shape.cells (closed G st) ∙ (λ i. reopen F (newly_same st i) (cells i) (closed_same st i))

  -- REFUSALS
  bad_entry_same : (st : Standing) (cs : List ℕ) → bad_entry G st cs ≡ bad_entry F st cs
  bad_entry_same st [] = refl
  bad_entry_same st (c ∷ cs) =
      λ i. cond (leb (cells i) c) (Some (UnknownCell c)) (cond (st.printed c) (Some (AlreadyPrinted c)) (bad_entry_same st cs i))

  refusal_same : (st : Standing) (act : Act) → refusal G st act ≡ refusal F st act
  refusal_same st (withhold cs) = λ i. cond (ltb 512 (length cs)) (Some MemorySize) (bad_entry_same st cs i)
  refusal_same st seek = refl
  refusal_same st (print memory) =
      λ i. cond (ltb memory (19 * cells i)) (Some MemorySize) (exposure (audit_same (withheld F st) (withheld G st) (withheld_same st) i))
  refusal_same st (witness c side memory) =
      grind (
        arith,
        nat_tests,
        cells,
        like.need c,
        λ (l : c < F.shape.cells).
            exposed_same F.shape G.shape like.shape (withheld F st) (withheld G st) (withheld_same st) F.figure G.figure like.figure (F.need c) (G.need c) (like.need c l) c l (side_of side),
      )

  -- WHAT AN ACCEPTED ACT LEAVES
  -- a list that can be withheld names cells only
  none_beyond : (st : Standing) (cs : List ℕ) → bad_entry F st cs ≡ None → (c : ℕ) → F.shape.cells ≤ c → among c cs ≡ false
  none_beyond st [] e c l = refl
  none_beyond st (a ∷ cs) e c l = grind (arith, nat_tests, none_beyond st cs)

  listed_below : (cs : List ℕ) (c : ℕ) → c < F.shape.cells → (among c cs && not (sensitive G.need c)) ≡ (among c cs && not (sensitive F.need c))
  listed_below cs c l = λ i. among c cs && not (ltb 0 (like.need c l i))

  withhold_same : (st : Standing) (cs : List ℕ) → refusal F st (withhold cs) ≡ None → accepted G st (withhold cs) ≡ accepted F st (withhold cs)
  withhold_same st cs e = λ i. record { complement = fun_ext at i; printed = st.printed }
    where
      good : bad_entry F st cs ≡ None
      good = grind (arith, nat_tests)

      at : (c : ℕ) → (among c cs && not (sensitive G.need c)) ≡ (among c cs && not (sensitive F.need c))
      at c = grind (arith, nat_tests, listed_below cs c, none_beyond st cs good c)

  -- an answer that is no refusal comes where nothing is to be refused
  granted : (o : Option Refusal) (x a : Answer) → a ≡ unless o x → ((r : Refusal) → a ≡ refused r → ⊥) → o ≡ None
  granted None x a e no_refusal = refl
  granted (Some r) x a e no_refusal = absurd (no_refusal r e)

  accepted_same : (st : Standing) (act : Act) (a : Answer) → ((r : Refusal) → a ≡ refused r → ⊥) → Right F st act a → accepted G st act ≡ accepted F st act
  accepted_same st (withhold cs) a no_refusal right = withhold_same st cs (granted (refusal F st (withhold cs)) _ a right no_refusal)
  accepted_same st seek a no_refusal right = searched_same st
  accepted_same st (print memory) a no_refusal right = λ i. record { complement = st.complement; printed = λ c. st.printed c || bare_same st c i }
  accepted_same st (witness c side memory) a no_refusal right = refl

  step_same : (st : Standing) (act : Act) (a : Answer) → Right F st act a → step G st act a ≡ step F st act a
  step_same st act (refused r) right = refl
  step_same st act (count k) right = accepted_same st act (count k) (λ r e. cc) right
  step_same st act (page p) right = accepted_same st act (page p) (λ r e. cc) right
  step_same st act (table t) right = accepted_same st act (table t) (λ r e. cc) right

  -- RIGHT ANSWERS
  away_same : (side : Side) (c : ℕ) → c < F.shape.cells → (n : ℕ) → Away side (G.need c) (G.figure c) n → Away side (F.need c) (F.figure c) n
  away_same Up c l n far = omega (arith, like.figure c l, like.need c l)
  away_same Down c l n far = omega (arith, like.figure c l, like.need c l)

  witnesses_same : (st : Standing) (c : ℕ) (side : Side) (ts : List ℕ) → c < F.shape.cells → Witnesses G st c side ts → Witnesses F st c side ts
  witnesses_same st c side ts l w = record {
    each = w.each ∙ cells;
    reading = record {
      balanced = balanced_same F.shape G.shape like.shape (λ x. get_or ts x 0) (λ x. get_or ts x 0) (λ _ _. refl) w.reading.balanced;
      true_figures = λ x h e. w.reading.true_figures x (omega (arith, cells)) (withheld_same st x h ∙ e) ∙ like.figure x h;
    };
    far = away_same side c l (get_or ts c 0) w.far;
  }

  -- a witness that is not refused is asked for a cell
  witness_inside : (st : Standing) (c side memory : ℕ) → refusal F st (witness c side memory) ≡ None → c < F.shape.cells
  witness_inside st c side memory e = grind (arith, nat_tests)

  right_same : (st : Standing) (act : Act) (a : Answer) → Right G st act a → Right F st act a
  right_same st (withhold cs) a right =
      let counts : complements G (accepted G st (withhold cs)) ≡ complements F (accepted F st (withhold cs)) =
      ap (λ m. count_below m (accepted G st (withhold cs)).complement) cells
      ∙ count_same F.shape.cells (accepted G st (withhold cs)).complement (accepted F st (withhold cs)).complement (listed_below cs) in
      right ∙ (λ i. unless (refusal_same st (withhold cs) i) (count (counts i)))
  right_same st seek a right = right ∙ (λ i. count (count_below (cells i) (λ c. (searched_same st i).complement c && not (st.complement c))))
  right_same st (print memory) a right = right ∙ (λ i. unless (refusal_same st (print memory) i) (page (bytes (cells i) (fun_ext (shown_same st) i))))
  right_same st (witness c side memory) a right =
      go (refusal F st (witness c side memory)) refl (subst (λ o. WitnessAnswer o (Witnesses G st c (side_of side)) a) (refusal_same st (witness c side memory)) right)
    where
      go : (o : Option Refusal) → refusal F st (witness c side memory) ≡ o → WitnessAnswer o (Witnesses G st c (side_of side)) a → WitnessAnswer o (Witnesses F st c (side_of side)) a
      go (Some r) e w = w
      go None e (ts, w, is) = (ts, witnesses_same st c (side_of side) ts (witness_inside st c side memory e) w, is)

  -- RUNS
  runs_same : (h : History) → Run G h → Run F h × (standing G h ≡ standing F h)
  runs_same [] run = (tt, refl)
  runs_same (e ∷ h) run =
      let before = runs_same h run.0 in
      let right : Right F (standing F h) e.0 e.1 = right_same (standing F h) e.0 e.1 (subst (λ st. Right G st e.0 e.1) before.1 run.1) in (
        (before.0, right),
        ap (λ st. step G st e.0 e.1) before.1 ∙ step_same (standing F h) e.0 e.1 right,
      )

  pub run_same : (h : History) → Run G h → Run F h
  run_same h run = (runs_same h run).0

  pub settled_same : Sound F.shape → Settled G → Settled F
  settled_same sound ok = record {
    sound = sound;
    few = omega (arith, cells, ok.few);
    balanced = balanced_same F.shape G.shape like.shape G.figure F.figure like.figure ok.balanced;
    within = λ c l. omega (arith, like.need c l, like.figure c l, ok.within c (omega (arith, cells)));
    small = λ c l. subst (λ v. v < 10 ^ 13) (like.figure c l) (ok.small c (omega (arith, cells)));
  }
