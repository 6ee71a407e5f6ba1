-- The law over runs: what all pages together keep, after every act of every run.
use Rattle.std.specs.Prelude.{◌≡◌, ℕ, ◌*◌, ◌<◌, ◌≤◌, true, false, ◌⊎◌, ◌↔◌, List, [], ◌∷◌, map, length, Some, slice_index}
use Rattle.refusals.specs.declared.Side.{Side}
use Rattle.refusals.specs.declared.Side.TheVariants.{Up, Down}
use Rattle.refusals.specs.declared.Refusal.{Refusal}
use Rattle.refusals.specs.declared.Refusal.TheVariants.{Exposed}
use Rattle.refusals.specs.Refusals.{line, side_of}
use Rattle.page.specs.Page.{spells}
use Rattle.page.specs.Writing.{line_over}
use Rattle.readings.specs.Exposure.{Figures}
use Rattle.runs.specs.Acts.{Act, withhold, seek, print, witness, Answer, refused, count, page, table, shown, page_of, added}
use Rattle.runs.specs.Runs.{History, standing, Run}
use Rattle.runs.specs.Pairs.{Settled, Sensitive, AgreesAll, Shows, Pair, Paired, GivesAway}

abbrev pub put : Answer → List (List ℕ) → List (List ℕ)
put (refused r) ps = ps
put (count n) ps = ps
put (page p) ps = p ∷ ps
put (table t) ps = ps

-- the pages printed so far
abbrev pub pages : History → List (List ℕ)
pages [] = []
pages (e ∷ h) = put e.1 (pages h)

-- the answer is a refusal with this number
abbrev pub RefusedWith : ℕ → Answer → Type 0
RefusedWith n a = (r : Refusal) × (a ≡ refused r) × ((line r).number ≡ n)

-- the latest act was a search
abbrev pub IsSearch : Act → Type 0
IsSearch (withhold cs) = ⊥
IsSearch seek = Unit {0}
IsSearch (print memory) = ⊥
IsSearch (witness c side memory) = ⊥

abbrev pub AfterSearch : History → Type 0
AfterSearch [] = ⊥
AfterSearch (e ∷ h) = IsSearch e.0

module _ (F : Figures) where
  -- the figure of the cell c stands on one of the pages
  abbrev pub Stands : ℕ → List (List ℕ) → Type 0
  Stands c [] = ⊥
  Stands c (p ∷ ps) = (spells p c ≡ Some (F.figure c)) ⊎ Stands c ps

  -- Every sensitive cell has its pair. All figures on the pages are true, and they are those of the printed cells.
  pub record PagesLaw (h : History) : Type 0 where
    pub paired : Paired F (pages h)
    pub true_figures : AgreesAll F.figure (pages h)
    pub printed : (c : ℕ) → c < F.shape.cells → ((standing F h).printed c ≡ true) ↔ Stands c (pages h)

  -- the pages with the one of this standing out too
  abbrev pub with_next : History → List (List ℕ)
  with_next h = page_of F (standing F h) ∷ pages h

  -- c is the lowest sensitive cell that these pages leave without its pair, and lacks a table on that side, up before down.
  pub record Lowest (ps : List (List ℕ)) (c : ℕ) (side : Side) : Type 0 where
    pub is_sensitive : Sensitive F c
    pub lacks : (t : ℕ → ℕ) → Shows F ps side c t → ⊥
    pub up_first : side ≡ Down → (t : ℕ → ℕ) × Shows F ps Up c t
    pub lower : (b : ℕ) → b < c → Sensitive F b → Pair F ps b

  -- A page that is printed fits the memory, and spells the figures of the cells that are not withheld, and nothing at the others.
  -- A print with memory enough is refused with 11 exactly when, with its page out too, some sensitive cell would have no pair; directly
  -- after a search it never is.
  pub record PrintLaw (h : History) (memory : ℕ) (a : Answer) : Type 0 where
    pub fits : (p : List ℕ) → a ≡ page p → length p ≤ memory
    pub shows : (p : List ℕ) → a ≡ page p → (c : ℕ) → c < F.shape.cells → spells p c ≡ shown F (standing F h) c
    pub exposes : 19 * F.shape.cells ≤ memory → RefusedWith 11 a ↔ GivesAway F (with_next h)
    pub names : (c : ℕ) (side : Side) → a ≡ refused (Exposed c side) → Lowest (with_next h) c side
    pub after_search : AfterSearch h → RefusedWith 11 a → ⊥

  -- the page with the line of c alone altered, so that it shows the cell's figure
  abbrev pub with_line : List ℕ → ℕ → List ℕ
  with_line p c = line_over p c (Some (F.figure c))

  -- A search is accepted, and only adds complements. Were a print after it to show one cell that it added, some sensitive cell would
  -- have no pair.
  pub record SearchLaw (h : History) (a : Answer) : Type 0 where
    pub accepts : a ≡ count (added F (standing F h))
    pub only_adds : (c : ℕ) → (standing F h).complement c ≡ true → (standing F ((seek, a) ∷ h)).complement c ≡ true
    pub each_needed : (c : ℕ) → c < F.shape.cells
        → (standing F h).complement c ≡ false → (standing F ((seek, a) ∷ h)).complement c ≡ true
        → GivesAway F (with_line (page_of F (standing F ((seek, a) ∷ h))) c ∷ pages ((seek, a) ∷ h))

  -- A witness has a figure for each cell, and is one of the pair for its cell and side, with the page of this standing out too. It is
  -- refused with 11 only where there is none.
  pub record WitnessLaw (h : History) (c side : ℕ) (a : Answer) : Type 0 where
    pub each : (figures : List ℕ) → a ≡ table figures → length figures ≡ F.shape.cells
    pub bears : (figures : List ℕ) → a ≡ table figures → Shows F (with_next h) (side_of side) c (λ x. slice_index figures x)
    pub lacks : RefusedWith 11 a → (t : ℕ → ℕ) → Shows F (with_next h) (side_of side) c t → ⊥

  abbrev pub ActLaw : History → Act → Answer → Type 0
  ActLaw h (withhold cs) a = Unit {0}
  ActLaw h seek a = SearchLaw h a
  ActLaw h (print memory) a = PrintLaw h memory a
  ActLaw h (witness c side memory) a = WitnessLaw h c side a

  -- A refused act leaves all as it was.
  pub record RefusalLaw (h : History) (act : Act) (a : Answer) : Type 0 where
    pub standing_stays : (r : Refusal) → a ≡ refused r → standing F ((act, a) ∷ h) ≡ standing F h
    pub pages_stay : (r : Refusal) → a ≡ refused r → pages ((act, a) ∷ h) ≡ pages h

  -- At first, and after each act, the pages keep to their law, and each act to its own.
  abbrev pub Lawful : History → Type 0
  Lawful [] = PagesLaw []
  Lawful (e ∷ h) = Lawful h × PagesLaw (e ∷ h) × ActLaw h e.0 e.1 × RefusalLaw h e.0 e.1

abbrev pub EveryRunIsLawful : Type 0
EveryRunIsLawful = (F : Figures) → Settled F → (h : History) → Run F h → Lawful F h

-- For every list of acts, the latest first, there is a run.
abbrev pub EveryListRuns : Type 0
EveryListRuns = (F : Figures) → Settled F → (acts : List Act) → (h : History) × Run F h × (map (λ (e : Act × Answer). e.0) h ≡ acts)
