-- What the page of a standing spells, and which tables agree with it.
use Rattle.std.proofs.Common.{◌≡◌, ℕ, ◌*◌, ◌^◌, ◌<◌, ◌≤◌, Bool, true, false, cond, eqb, List, [], length, Some, None, Option, sym, refl, ap, ◌∙◌, inl, inr, arith}
use Rattle.std.proofs.lemmas.List.{append-nil}
use Rattle.std.proofs.lemmas.Bool.{cases_lt, cases_eq, lt-ltb, eq-eqb, ne_eqb, not_from_false, and_from, cond-true, cond-false}
use Rattle.page.specs.Page.{page as bytes, spells, fits}
use Rattle.page.specs.Writing.{line_over}
use Rattle.page.specs.Laws.{Printable}
use Rattle.page.proofs.Reading.{page_laws}
use Rattle.readings.specs.Readings.{Reading}
use Rattle.readings.specs.Exposure.{Figures, besides}
use Rattle.readings.proofs.Walls.{besides_other}
use Rattle.runs.specs.Acts.{Standing, withheld, bare, shown, page_of}
use Rattle.runs.specs.Pairs.{Settled, Agrees}
use Rattle.runs.specs.Law.{with_line}
use Rattle.runs.proofs.Search.{bare_parts}

pub some_same : (x y : ℕ) → ◌≡◌ {A = Option ℕ} (Some x) (Some y) → x ≡ y
some_same x y e = cc

none_some : (x : ℕ) → ◌≡◌ {A = Option ℕ} None (Some x) → ⊥
none_some x e = let z : ◌≡◌ {A = ℕ} 0 1 = cc in omega arith

-- a page that shows true figures only
abbrev TrueFigures : Figures → (ℕ → Option ℕ) → Type 0
TrueFigures F shows = (c x : ℕ) → shows c ≡ Some x → x ≡ F.figure c

module _ (F : Figures) (ok : Settled F) where
  fits_true : (c : ℕ) → c < F.shape.cells → (o : Option ℕ) → ((x : ℕ) → o ≡ Some x → x ≡ F.figure c) → fits o ≡ true
  fits_true c l (Some x) is = lt-ltb x (10 ^ 13) (omega (arith, is x refl, ok.small c l))
  fits_true c l None is = refl

  printable : (shows : ℕ → Option ℕ) → TrueFigures F shows → Printable F.shape.cells shows
  printable shows is = record { few = omega (arith, ok.few); fit = λ c l. fits_true c l (shows c) (is c) }

  page_spells : (shows : ℕ → Option ℕ) → TrueFigures F shows → (c : ℕ) → c < F.shape.cells → spells (bytes F.shape.cells shows) c ≡ shows c
  page_spells shows is c l =
      ap (λ (p : List ℕ). spells p c) (sym (append-nil (bytes F.shape.cells shows)))
      ∙ page_laws.spelled F.shape.cells shows [] (printable shows is) c l

  -- THE PAGE OF A STANDING
  module _ (st : Standing) where
    pub shown_bare : (c x : ℕ) → shown F st c ≡ Some x → (bare F st c ≡ true) × (x ≡ F.figure c)
    shown_bare c x = go (bare F st c)
      where
        go : (b : Bool) → cond b (Some (F.figure c)) None ≡ Some x → (b ≡ true) × (x ≡ F.figure c)
        go true e = (refl, sym (some_same (F.figure c) x e))
        go false e = absurd (none_some x e)

    shown_true : TrueFigures F (shown F st)
    shown_true c x e = (shown_bare c x e).1

    pub length_page_of : length (page_of F st) ≡ 19 * F.shape.cells
    length_page_of = page_laws.long F.shape.cells (shown F st) (printable (shown F st) shown_true)

    pub page_of_spells : (c : ℕ) → c < F.shape.cells → spells (page_of F st) c ≡ shown F st c
    page_of_spells = page_spells (shown F st) shown_true

    page_of_ends : (c : ℕ) → F.shape.cells ≤ c → spells (page_of F st) c ≡ None
    page_of_ends = page_laws.ended F.shape.cells (shown F st) (printable (shown F st) shown_true)

    -- a cell that is not withheld is shown
    pub not_withheld_bare : (c : ℕ) → c < F.shape.cells → withheld F st c ≡ false → bare F st c ≡ true
    not_withheld_bare c l e = and_from _ _ (lt-ltb c F.shape.cells l) (not_from_false _ e)

    pub bare_spelled : (c : ℕ) → c < F.shape.cells → bare F st c ≡ true → spells (page_of F st) c ≡ Some (F.figure c)
    bare_spelled c l b = page_of_spells c l ∙ cond-true _ _ _ b

    pub reading_agrees : (t : ℕ → ℕ) → Reading F.shape (withheld F st) F.figure t → Agrees t (page_of F st)
    reading_agrees t r c x e =
        elim (cases_lt c F.shape.cells) [
          | inl l ↦ let is = shown_bare c x (sym (page_of_spells c l) ∙ e) in r.true_figures c l (bare_parts F st c is.0).1 ∙ sym is.1
          | inr beyond ↦ absurd (none_some x (sym (page_of_ends c beyond) ∙ e))
        ]

    pub agrees_true : (t : ℕ → ℕ) → Agrees t (page_of F st) → (c : ℕ) → c < F.shape.cells → withheld F st c ≡ false → t c ≡ F.figure c
    agrees_true t g c l e = g c (F.figure c) (bare_spelled c l (not_withheld_bare c l e))

    -- THE LINE OF c ALONE ALTERED
    module _ (c : ℕ) (l : c < F.shape.cells) where
      abbrev shown_too : ℕ → Option ℕ
      shown_too x = cond (eqb x c) (Some (F.figure c)) (shown F st x)

      at_c : shown_too c ≡ Some (F.figure c)
      at_c = cond-true _ _ _ (eq-eqb c c refl)

      elsewhere : (x : ℕ) → (x ≡ c → ⊥) → shown_too x ≡ shown F st x
      elsewhere x other = cond-false _ _ _ (ne_eqb x c other)

      too_true : TrueFigures F shown_too
      too_true x y e =
          elim (cases_eq x c) [
            | inl here ↦ some_same y (F.figure x) (sym e ∙ ap shown_too here ∙ at_c ∙ ap (λ z. Some (F.figure z)) (sym here))
            | inr other ↦ shown_true x y (sym (elsewhere x other) ∙ e)
          ]

      with_line_page : bytes F.shape.cells shown_too ≡ with_line F (page_of F st) c
      with_line_page =
          page_laws.altered F.shape.cells (shown F st) shown_too c (printable (shown F st) shown_true) l elsewhere
          ∙ ap (λ o. line_over (page_of F st) c o) at_c

      too_shown : (x : ℕ) → x < F.shape.cells → besides (withheld F st) c x ≡ false → shown_too x ≡ Some (F.figure x)
      too_shown x m e =
          elim (cases_eq x c) [
            | inl here ↦ ap shown_too here ∙ at_c ∙ ap (λ z. Some (F.figure z)) (sym here)
            | inr other ↦ elsewhere x other ∙ cond-true _ _ _ (not_withheld_bare x m (sym (besides_other (withheld F st) c x other) ∙ e))
          ]

      pub line_agrees_true : (t : ℕ → ℕ) → Agrees t (with_line F (page_of F st) c)
          → (x : ℕ) → x < F.shape.cells → besides (withheld F st) c x ≡ false → t x ≡ F.figure x
      line_agrees_true t g x m e =
          g x (F.figure x) (ap (λ (p : List ℕ). spells p x) (sym with_line_page) ∙ page_spells shown_too too_true x m ∙ too_shown x m e)
