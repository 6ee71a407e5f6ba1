-- What every run keeps: printed cells are not withheld, readings of the printed cells agree with all pages, and leave every sensitive cell hidden.
use Rattle.std.proofs.Common.{◌≡◌, ℕ, ◌*◌, ◌<◌, Bool, true, false, cond, not, ◌||◌, eqb, ltb, leb, ◌↔◌, List, [], ◌∷◌, length, Some, None, Option, sym, refl, ap, ◌∙◌, subst, inl, inr, arith}
use Rattle.std.proofs.lemmas.Bool.{cases_Bool, both_ways, false≢true, not-true, not_from_false, and_left, or_cases, or_left, or_right, or_from, eqb-true}
use Rattle.refusals.specs.declared.Side.{Side}
use Rattle.refusals.specs.declared.Refusal.{Refusal}
use Rattle.refusals.specs.declared.Refusal.TheVariants.{MemorySize, UnknownCell, AlreadyPrinted, Exposed}
use Rattle.refusals.specs.Refusals.{side_of}
use Rattle.sums.specs.Sums.{among}
use Rattle.readings.specs.Readings.{Reading, Withholds}
use Rattle.readings.specs.Exposure.{Figures, audit}
use Rattle.readings.specs.Theorems.{Safe}
use Rattle.readings.proofs.Audits.{audit_right_lem}
use Rattle.runs.specs.Acts.{Act, withhold, seek, print, witness, Answer, count, page, Standing, fresh, exposure, withheld, bare, page_of, searched, bad_entry, refusal, accepted, step, unless, WitnessAnswer, Witnesses, Right}
use Rattle.runs.specs.Runs.{History, standing, Run}
use Rattle.runs.specs.Pairs.{Settled, AgreesAll}
use Rattle.runs.specs.Law.{put, pages, Stands}
use Rattle.runs.proofs.Hiding.{reading_more, safe_more, safe_all, fit}
use Rattle.runs.proofs.Search.{unprinted, PrintedBare, bare_parts, bare_still, search_printed, search_apart}
use Rattle.runs.proofs.Printing.{shown_bare, page_of_spells, bare_spelled, not_withheld_bare, reading_agrees}

refused_never : (r : Refusal) → ◌≡◌ {A = Option Refusal} (Some r) None → ⊥
refused_never r e = let z : ◌≡◌ {A = ℕ} 0 1 = cc in omega arith

module _ (F : Figures) where
  pub record Kept (st : Standing) (ps : List (List ℕ)) : Type 0 where
    pub apart : PrintedBare F st
    pub fits : (t : ℕ → ℕ) → Reading F.shape (unprinted st) F.figure t → AgreesAll t ps
    pub safe : Safe F (unprinted st)
    pub stands : (c : ℕ) → c < F.shape.cells → (st.printed c ≡ true) ↔ Stands F c ps

  -- no printed cell is in a list that can be withheld
  not_among : (st : Standing) (cs : List ℕ) (c : ℕ) → bad_entry F st cs ≡ None → st.printed c ≡ true → among c cs ≡ false
  not_among st [] c e p = refl
  not_among st (x ∷ xs) c e p = go (leb F.shape.cells x) (st.printed x) refl e (λ f. not_among st xs c f p)
    where
      go : (b q : Bool) → st.printed x ≡ q → cond b (Some (UnknownCell x)) (cond q (Some (AlreadyPrinted x)) (bad_entry F st xs)) ≡ None
          → (bad_entry F st xs ≡ None → among c xs ≡ false) → (eqb c x || among c xs) ≡ false
      go true q is f rest = absurd (refused_never (UnknownCell x) f)
      go false true is f rest = absurd (refused_never (AlreadyPrinted x) f)
      go false false is f rest = or_from (eqb c x) (among c xs)
          (elim (cases_Bool (eqb c x)) [
            | inl same ↦ absurd (both_ways (st.printed x) is (ap st.printed (sym (eqb-true c x same)) ∙ p))
            | inr other ↦ other
          ])
          (rest f)

module _ (F : Figures) (ok : Settled F) where
  kept_fresh : Kept F fresh []
  kept_fresh = record {
    apart = λ c e. absurd (false≢true e);
    fits = λ t r. tt;
    safe = safe_all F ok (unprinted fresh) (λ c. refl);
    stands = λ c l. ((λ e. absurd (false≢true e)), (λ x. absurd x));
  }

  module _ (st : Standing) (ps : List (List ℕ)) (k : Kept F st ps) where
    -- what is withheld is not printed
    pub withheld_unprinted : Withholds F.shape.cells (withheld F st) (unprinted st)
    withheld_unprinted c l w =
        elim (cases_Bool (st.printed c)) [
          | inl p ↦ absurd (both_ways _ (bare_parts F st c (k.apart c p)).1 w)
          | inr u ↦ not_from_false _ u
        ]

    pub fits_next : (t : ℕ → ℕ) → Reading F.shape (withheld F st) F.figure t → AgreesAll t (page_of F st ∷ ps)
    fits_next t r = (
      reading_agrees F ok st t r,
      k.fits t (reading_more F.shape (withheld F st) (unprinted st) F.figure t withheld_unprinted r),
    )

    kept_withhold : (cs : List ℕ) → refusal F st (withhold cs) ≡ None → Kept F (accepted F st (withhold cs)) ps
    kept_withhold cs e = record {
      apart = λ c p. bare_still F st (accepted F st (withhold cs)) c (k.apart c p) (and_left _ _ (not_among F st cs c (go (ltb 512 (length cs)) e) p));
      fits = k.fits;
      safe = k.safe;
      stands = k.stands;
    }
      where
        go : (b : Bool) → cond b (Some MemorySize) (bad_entry F st cs) ≡ None → bad_entry F st cs ≡ None
        go true f = absurd (refused_never MemorySize f)
        go false f = f

    kept_search : Kept F (searched F st) ps
    kept_search = record {
      apart = λ c p. search_apart F ok st k.apart k.safe c (ap (λ (q : ℕ → Bool). q c) (sym same) ∙ p);
      fits = λ t r. k.fits t (subst (λ (q : ℕ → Bool). Reading F.shape (λ c. not (q c)) F.figure t) same r);
      safe = subst (λ (q : ℕ → Bool). Safe F (λ c. not (q c))) (sym same) k.safe;
      stands = λ c l. subst (λ (q : ℕ → Bool). (q c ≡ true) ↔ Stands F c ps) (sym same) (k.stands c l);
    }
      where
        same : (searched F st).printed ≡ st.printed
        same = search_printed F ok st k.apart k.safe

    print_bare : (c : ℕ) → (st.printed c || bare F st c) ≡ true → bare F st c ≡ true
    print_bare c p = elim (or_cases (st.printed c) (bare F st c) p) [ inl q ↦ k.apart c q | inr q ↦ q ]

    -- after a print, what is not printed is withheld, and the other way round
    printed_not_withheld : (memory : ℕ) → Withholds F.shape.cells (withheld F st) (unprinted (accepted F st (print memory)))
    printed_not_withheld memory c l w =
        elim (cases_Bool (st.printed c || bare F st c)) [
          | inl p ↦ absurd (both_ways _ (bare_parts F st c (print_bare c p)).1 w)
          | inr u ↦ not_from_false _ u
        ]

    unprinted_withheld : (memory : ℕ) → Withholds F.shape.cells (unprinted (accepted F st (print memory))) (withheld F st)
    unprinted_withheld memory c l u =
        elim (cases_Bool (withheld F st c)) [
          | inl w ↦ w
          | inr off ↦ absurd (both_ways _ (not-true _ u) (or_right (st.printed c) _ (not_withheld_bare F ok st c l off)))
        ]

    kept_print : (memory : ℕ) → audit F (withheld F st) ≡ None → Kept F (accepted F st (print memory)) (page_of F st ∷ ps)
    kept_print memory e = record {
      apart = print_bare;
      fits = λ t r. fits_next t (reading_more F.shape _ (withheld F st) F.figure t (unprinted_withheld memory) r);
      safe = safe_more F (withheld F st) _ (printed_not_withheld memory) ((audit_right_lem F (withheld F st) (fit F ok st)).passes.0 e);
      stands = λ c l. (
        λ p. elim (or_cases (st.printed c) (bare F st c) p) [ inl q ↦ inr ((k.stands c l).0 q) | inr q ↦ inl (bare_spelled F ok st c l q) ],
        λ x. elim x [
          | inl q ↦ or_right (st.printed c) _ (shown_bare F ok st c _ (sym (page_of_spells F ok st c l) ∙ q)).0
          | inr q ↦ or_left (st.printed c) _ ((k.stands c l).1 q)
        ],
      );
    }

    not_exposed : (memory : ℕ) → refusal F st (print memory) ≡ None → audit F (withheld F st) ≡ None
    not_exposed memory = go (ltb memory (19 * F.shape.cells)) (audit F (withheld F st))
      where
        go : (b : Bool) (o : Option (ℕ × Side)) → cond b (Some MemorySize) (exposure o) ≡ None → o ≡ None
        go true o f = absurd (refused_never MemorySize f)
        go false None f = refl
        go false (Some p) f = absurd (refused_never (Exposed p.0 p.1) f)

    kept_step : (act : Act) (a : Answer) → Right F st act a → Kept F (step F st act a) (put a ps)
    kept_step (withhold cs) a right = subst (λ x. Kept F (step F st (withhold cs) x) (put x ps)) (sym right) (go (refusal F st (withhold cs)) refl _)
      where
        go : (o : Option Refusal) → refusal F st (withhold cs) ≡ o → (n : ℕ) → Kept F (step F st (withhold cs) (unless o (count n))) (put (unless o (count n)) ps)
        go (Some r) e n = k
        go None e n = kept_withhold cs e
    kept_step seek a right = subst (λ x. Kept F (step F st seek x) (put x ps)) (sym right) kept_search
    kept_step (print memory) a right = subst (λ x. Kept F (step F st (print memory) x) (put x ps)) (sym right) (go (refusal F st (print memory)) refl)
      where
        go : (o : Option Refusal) → refusal F st (print memory) ≡ o
            → Kept F (step F st (print memory) (unless o (page (page_of F st)))) (put (unless o (page (page_of F st))) ps)
        go (Some r) e = k
        go None e = kept_print memory (not_exposed memory e)
    kept_step (witness c side memory) a right = go (refusal F st (witness c side memory)) right
      where
        go : (o : Option Refusal) → WitnessAnswer o (Witnesses F st c (side_of side)) a → Kept F (step F st (witness c side memory) a) (put a ps)
        go (Some r) f = subst (λ x. Kept F (step F st (witness c side memory) x) (put x ps)) (sym f) k
        go None f = subst (λ x. Kept F (step F st (witness c side memory) x) (put x ps)) (sym f.2) k

  pub kept : (h : History) → Run F h → Kept F (standing F h) (pages h)
  kept [] r = kept_fresh
  kept (e ∷ h) r = kept_step (standing F h) (pages h) (kept h r.0) e.0 e.1 r.1
