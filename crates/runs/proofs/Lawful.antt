-- Every run is lawful.
use Rattle.std.proofs.Common.{◌≡◌, ℕ, ◌*◌, ◌<◌, ◌≤◌, Bool, true, false, cond, not, ltb, leb, List, [], ◌∷◌, length, get_or, Some, None, Option, sym, refl, ap, ◌∙◌, subst, arith}
use Rattle.std.proofs.lemmas.Bool.{ltb-true, ltb-false, leb-false}
use Rattle.refusals.specs.declared.Side.{Side}
use Rattle.refusals.specs.declared.Side.TheVariants.{Up, Down}
use Rattle.refusals.specs.declared.Refusal.{Refusal}
use Rattle.refusals.specs.declared.Refusal.TheVariants.{MemorySize, UnknownCell, NotSensitive, Exposed}
use Rattle.refusals.specs.Refusals.{line, side_of}
use Rattle.page.specs.Page.{spells}
use Rattle.readings.specs.Readings.{Reading}
use Rattle.readings.specs.Exposure.{Figures, sensitive, is_exposed, besides, audit}
use Rattle.readings.specs.Theorems.{Hidden, Safe as SafeWith, Audited}
use Rattle.readings.proofs.Audits.{audit_right_lem}
use Rattle.readings.proofs.Walls.{exposed_near}
use Rattle.runs.specs.Acts.{Act, withhold, seek, print, witness, Answer, refused, page, table, Standing, exposure, withheld, page_of, searched, step, unless, WitnessAnswer, Witnesses, Right}
use Rattle.runs.specs.Runs.{History, standing, Run}
use Rattle.runs.specs.Pairs.{Settled, AgreesAll, Shows, Pair, GivesAway}
use Rattle.runs.specs.Law.{pages, RefusedWith, IsSearch, AfterSearch, PagesLaw, with_next, Lowest, PrintLaw, with_line, SearchLaw, WitnessLaw, ActLaw, RefusalLaw, EveryRunIsLawful}
use Rattle.runs.proofs.Hiding.{Exposes, hidden_parts, parts_hidden, sensitive_test, test_sensitive, fit}
use Rattle.runs.proofs.Search.{unprinted, search_adds, search_safe, search_needed}
use Rattle.runs.proofs.Printing.{length_page_of, page_of_spells, agrees_true, line_agrees_true}
use Rattle.runs.proofs.Kept.{Kept, fits_next, kept}

-- ANSWERS TOLD APART
other_number : (a : Answer) (r : Refusal) → a ≡ refused r → ((line r).number ≡ 11 → ⊥) → RefusedWith 11 a → ⊥
other_number a r e never x = let same : x.0 ≡ r = cc (x.1, e) in never (ap (λ q. (line q).number) (sym same) ∙ x.2)

page_refused : (a : Answer) (p : List ℕ) (r : Refusal) → a ≡ page p → a ≡ refused r → ⊥
page_refused a p r e f = let z : ◌≡◌ {A = ℕ} 0 1 = cc in omega arith

table_refused : (a : Answer) (t : List ℕ) (r : Refusal) → a ≡ table t → a ≡ refused r → ⊥
table_refused a t r e f = let z : ◌≡◌ {A = ℕ} 0 1 = cc in omega arith

same_page : (a : Answer) (p q : List ℕ) → a ≡ page p → a ≡ page q → p ≡ q
same_page a p q e f = cc

same_table : (a : Answer) (t u : List ℕ) → a ≡ table t → a ≡ table u → t ≡ u
same_table a t u e f = cc

same_cell : (a : Answer) (b c : ℕ) (x y : Side) → a ≡ refused (Exposed b x) → a ≡ refused (Exposed c y) → b ≡ c
same_cell a b c x y e f = cc

same_side : (a : Answer) (b c : ℕ) (x y : Side) → a ≡ refused (Exposed b x) → a ≡ refused (Exposed c y) → x ≡ y
same_side a b c x y e f = cc

-- FROM READINGS TO TABLES THAT AGREE WITH THE PAGES, AND BACK
module _ (F : Figures) (W : ℕ → Bool) (ps : List (List ℕ)) where
  -- every reading agrees with the pages
  abbrev PagesAllow : Type 0
  PagesAllow = (t : ℕ → ℕ) → Reading F.shape W F.figure t → AgreesAll t ps

  -- whatever agrees with the pages has the true figures of the cells that are not withheld
  abbrev PagesFix : Type 0
  PagesFix = (t : ℕ → ℕ) → AgreesAll t ps → (c : ℕ) → c < F.shape.cells → W c ≡ false → t c ≡ F.figure c

  hidden_shows : PagesAllow → (c : ℕ) (side : Side) → Hidden F W c side → (t : ℕ → ℕ) × Shows F ps side c t
  hidden_shows allow c side far =
      let t = hidden_parts F W c side far in
      (t.0, record { balanced = t.1.balanced; fits = allow t.0 t.1; far = t.2 })

  hidden_pair : PagesAllow → (c : ℕ) → ((side : Side) → Hidden F W c side) → Pair F ps c
  hidden_pair allow c far = (hidden_shows allow c Up (far Up), hidden_shows allow c Down (far Down))

  exposed_lacks : PagesFix → (c : ℕ) (side : Side) → (Hidden F W c side → ⊥) → (t : ℕ → ℕ) → Shows F ps side c t → ⊥
  exposed_lacks fix c side exposed t w =
      exposed (parts_hidden F W c side t (record { balanced = w.balanced; true_figures = fix t w.fits }) w.far)

  no_pair : PagesFix → (c : ℕ) (side : Side) → (Hidden F W c side → ⊥) → Pair F ps c → ⊥
  no_pair fix c Up exposed two = exposed_lacks fix c Up exposed two.0.0 two.0.1
  no_pair fix c Down exposed two = exposed_lacks fix c Down exposed two.1.0 two.1.1

  exposes_gives_away : PagesFix → Exposes F W → GivesAway F ps
  exposes_gives_away fix (c, side, told) = (c, test_sensitive F c told.inside told.is_sensitive, no_pair fix c side told.exposed)

  safe_keeps : PagesAllow → SafeWith F W → GivesAway F ps → ⊥
  safe_keeps allow safe (c, s, lacks) = lacks (hidden_pair allow c (safe c s.inside (sensitive_test F c s)))

module _ (F : Figures) (ok : Settled F) (h : History) (k : Kept F (standing F h) (pages h)) where
  abbrev st : Standing
  st = standing F h

  allow_next : PagesAllow F (withheld F st) (with_next F h)
  allow_next = fits_next F ok st (pages h) k

  fix_next : PagesFix F (withheld F st) (with_next F h)
  fix_next t f = agrees_true F ok st t f.0

  lowest : Audited F (withheld F st) → (b : ℕ) (x : Side) → audit F (withheld F st) ≡ Some (b, x) → (c : ℕ) (side : Side) → b ≡ c → x ≡ side → Lowest F (with_next F h) c side
  lowest right b x e c side is_b is_x =
      let f : audit F (withheld F st) ≡ Some (c, side) = e ∙ ap (λ i. Some (i, x)) is_b ∙ ap (λ i. Some (c, i)) is_x in
      let told = right.names c side f in
      record {
        is_sensitive = test_sensitive F c told.inside told.is_sensitive;
        lacks = exposed_lacks F (withheld F st) (with_next F h) fix_next c side told.exposed;
        up_first = λ d. hidden_shows F (withheld F st) (with_next F h) allow_next c Up (right.up_first c (f ∙ ap (λ i. Some (c, i)) d));
        lower = λ i l s. hidden_pair F (withheld F st) (with_next F h) allow_next i (right.first c side f i l (sensitive_test F i s));
      }

  print_law : (memory : ℕ) (a : Answer) → (AfterSearch h → SafeWith F (withheld F st)) → Right F st (print memory) a → PrintLaw F h memory a
  print_law memory a after = go (ltb memory (19 * F.shape.cells)) refl (audit F (withheld F st)) refl
    where
      right : Audited F (withheld F st)
      right = audit_right_lem F (withheld F st) (fit F ok st)

      go : (b : Bool) → ltb memory (19 * F.shape.cells) ≡ b → (o : Option (ℕ × Side)) → audit F (withheld F st) ≡ o
          → a ≡ unless (cond b (Some MemorySize) (exposure o)) (page (page_of F st)) → PrintLaw F h memory a
      go true e o g f = record {
        fits = λ p x. absurd (page_refused a p MemorySize x f);
        shows = λ p x. absurd (page_refused a p MemorySize x f);
        exposes = λ enough. absurd (omega (arith, ltb-true memory (19 * F.shape.cells) e));
        names = λ c side x. absurd (other_number a MemorySize f (λ n. omega arith) (Exposed c side, x, refl));
        after_search = λ _ x. other_number a MemorySize f (λ n. omega arith) x;
      }
      go false e None g f = record {
        fits = λ p x. subst (λ (q : List ℕ). length q ≤ memory) (same_page a (page_of F st) p f x)
            (omega (arith, length_page_of F ok st, ltb-false memory (19 * F.shape.cells) e));
        shows = λ p x c l. ap (λ (q : List ℕ). spells q c) (sym (same_page a (page_of F st) p f x)) ∙ page_of_spells F ok st c l;
        exposes = λ enough. (
          λ x. absurd (page_refused a (page_of F st) x.0 f x.1),
          λ x. absurd (safe_keeps F (withheld F st) (with_next F h) allow_next (right.passes.0 g) x),
        );
        names = λ c side x. absurd (page_refused a (page_of F st) (Exposed c side) f x);
        after_search = λ _ x. page_refused a (page_of F st) x.0 f x.1;
      }
      go false e (Some p) g f = record {
        fits = λ q x. absurd (page_refused a q (Exposed p.0 p.1) x f);
        shows = λ q x. absurd (page_refused a q (Exposed p.0 p.1) x f);
        exposes = λ enough. (
          λ _. exposes_gives_away F (withheld F st) (with_next F h) fix_next (p.0, p.1, right.names p.0 p.1 g),
          λ _. (Exposed p.0 p.1, f, refl),
        );
        names = λ c side x. lowest right p.0 p.1 g c side (same_cell a p.0 c p.1 side f x) (same_side a p.0 c p.1 side f x);
        after_search = λ z _. let told = right.names p.0 p.1 g in told.exposed (after z p.0 told.inside told.is_sensitive p.1);
      }

  witness_law : (c side memory : ℕ) (a : Answer) → Right F st (witness c side memory) a → WitnessLaw F h c side a
  witness_law c side memory a =
      go (leb F.shape.cells c) (not (sensitive F.need c)) (ltb memory F.shape.cells)
      (is_exposed F.shape (withheld F st) F.figure (F.need c) c (side_of side)) refl refl refl
    where
      refuses : (r : Refusal) → a ≡ refused r → ((line r).number ≡ 11 → ⊥) → WitnessLaw F h c side a
      refuses r f never = record {
        each = λ t x. absurd (table_refused a t r x f);
        bears = λ t x. absurd (table_refused a t r x f);
        lacks = λ x. absurd (other_number a r f never x);
      }

      go : (b n d x : Bool) → leb F.shape.cells c ≡ b → not (sensitive F.need c) ≡ n
          → is_exposed F.shape (withheld F st) F.figure (F.need c) c (side_of side) ≡ x
          → WitnessAnswer (cond b (Some (UnknownCell c)) (cond n (Some (NotSensitive c)) (cond d (Some MemorySize)
          (cond x (Some (Exposed c (side_of side))) None)))) (Witnesses F st c (side_of side)) a
          → WitnessLaw F h c side a
      go true n d x e g i f = refuses (UnknownCell c) f (λ q. omega arith)
      go false true d x e g i f = refuses (NotSensitive c) f (λ q. omega arith)
      go false false true x e g i f = refuses MemorySize f (λ q. omega arith)
      go false false false true e g i f = record {
        each = λ t x. absurd (table_refused a t (Exposed c (side_of side)) x f);
        bears = λ t x. absurd (table_refused a t (Exposed c (side_of side)) x f);
        lacks = λ _. exposed_lacks F (withheld F st) (with_next F h) fix_next c (side_of side)
            (exposed_near F.shape (withheld F st) F.figure c ok.sound ok.balanced (leb-false F.shape.cells c e) (F.need c) (side_of side) i);
      }
      go false false false false e g i f = record {
        each = λ t x. ap length (sym (same_table a f.0 t f.2 x)) ∙ f.1.each;
        bears = λ t x. subst (λ (u : List ℕ). Shows F (with_next F h) (side_of side) c (λ y. get_or u y 0)) (same_table a f.0 t f.2 x)
            (record { balanced = f.1.reading.balanced; fits = allow_next (λ y. get_or f.0 y 0) f.1.reading; far = f.1.far });
        lacks = λ x. absurd (table_refused a f.0 x.0 f.2 x.1);
      }

  search_law : (a : Answer) → Right F st seek a → SearchLaw F h a
  search_law a right = subst (SearchLaw F h) (sym right) (record {
    accepts = refl;
    only_adds = search_adds F ok st k.apart k.safe;
    each_needed = λ c l off on.
        exposes_gives_away F (besides (withheld F (searched F st)) c) (with_line F (page_of F (searched F st)) c ∷ pages h)
        (λ t f. line_agrees_true F ok (searched F st) c l t f.0)
        (search_needed F ok st k.apart k.safe c l off on);
  })

  act_law : (act : Act) (a : Answer) → (AfterSearch h → SafeWith F (withheld F st)) → Right F st act a → ActLaw F h act a
  act_law (withhold cs) a after right = tt
  act_law seek a after right = search_law a right
  act_law (print memory) a after right = print_law memory a after right
  act_law (witness c side memory) a after right = witness_law c side memory a right

refusal_law : (F : Figures) (h : History) (act : Act) (a : Answer) → RefusalLaw F h act a
refusal_law F h act a = record {
  standing_stays = λ r e. ap (λ x. standing F ((act, x) ∷ h)) e;
  pages_stay = λ r e. ap (λ x. pages ((act, x) ∷ h)) e;
}

module _ (F : Figures) (ok : Settled F) where
  -- directly after a search nobody is exposed
  after_search_safe : (h : History) → Run F h → AfterSearch h → SafeWith F (withheld F (standing F h))
  after_search_safe [] r z = absurd z
  after_search_safe (e ∷ h) r z = go e.0 e.1 z r.1
    where
      k : Kept F (standing F h) (pages h)
      k = kept F ok h r.0

      go : (act : Act) (a : Answer) → IsSearch act → Right F (standing F h) act a → SafeWith F (withheld F (step F (standing F h) act a))
      go (withhold cs) a z right = absurd z
      go seek a z right = subst (λ x. SafeWith F (withheld F (step F (standing F h) seek x))) (sym right)
          (search_safe F ok (standing F h) k.apart k.safe)
      go (print memory) a z right = absurd z
      go (witness c side memory) a z right = absurd z

  pages_law : (h : History) → Run F h → PagesLaw F h
  pages_law h r = record {
    paired = λ c s. hidden_pair F (unprinted (standing F h)) (pages h) k.fits c (k.safe c s.inside (sensitive_test F c s));
    true_figures = k.fits F.figure (record { balanced = ok.balanced; true_figures = λ c l e. refl });
    printed = k.stands;
  }
    where
      k : Kept F (standing F h) (pages h)
      k = kept F ok h r

pub every_run_is_lawful : EveryRunIsLawful
every_run_is_lawful F ok [] r = pages_law F ok [] r
every_run_is_lawful F ok (e ∷ h) r = (
  every_run_is_lawful F ok h r.0,
  pages_law F ok (e ∷ h) r,
  act_law F ok h (kept F ok h r.0) e.0 e.1 (after_search_safe F ok h r.0) r.1,
  refusal_law F h e.0 e.1,
)
