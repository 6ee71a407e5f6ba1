-- The acts of an office on a sheet: why each is refused, the standing of the cells that it leads to, and its right answer.
use Rattle.std.specs.Prelude.{◌≡◌, ℕ, zero, suc, ◌*◌, Bool, false, cond, not, ◌&&◌, ◌||◌, List, [], ◌∷◌, length, is_some, Some, None, Option, ◌==◌, nat_le, nat_lt, slice_index}
use Rattle.refusals.specs.declared.Side.{Side}
use Rattle.refusals.specs.declared.Refusal.{Refusal}
use Rattle.refusals.specs.declared.Refusal.TheVariants.{MemorySize, UnknownCell, AlreadyPrinted, NotSensitive, Exposed}
use Rattle.refusals.specs.Refusals.{side_of}
use Rattle.sums.specs.Sums.{count_below, among}
use Rattle.page.specs.Page.{page as bytes}
use Rattle.readings.specs.Readings.{Away, Reading}
use Rattle.readings.specs.Exposure.{Figures, sensitive, is_exposed, audit}

-- Memory is counted in bytes for a print, and in figures for a witness; a witness asks for its side by a number.
pub data Act : Type 0 where
  withhold : (cells : List ℕ) → Act
  seek : Act
  print : (memory : ℕ) → Act
  witness : (cell side memory : ℕ) → Act

-- A count answers a withhold or a search, a page answers a print, and a table a witness.
pub data Answer : Type 0 where
  refused : Refusal → Answer
  count : ℕ → Answer
  page : List ℕ → Answer
  table : List ℕ → Answer

-- Which cells are complements, and which are printed.
pub record Standing : Type 0 where
  pub complement : ℕ → Bool
  pub printed : ℕ → Bool

abbrev pub fresh : Standing
fresh = record { complement = λ _. false; printed = λ _. false }

-- the cell c is no longer a complement
abbrev pub opened : ℕ → Standing → Standing
opened c st = record { complement = λ x. st.complement x && not (x == c); printed = st.printed }

-- the refusal that names what an audit found
abbrev pub exposure : Option (ℕ × Side) → Option Refusal
exposure None = None
exposure (Some e) = Some (Exposed e.0 e.1)

module _ (F : Figures) where
  abbrev pub withheld : Standing → ℕ → Bool
  withheld st c = sensitive F.need c || st.complement c

  -- a cell of the layout that is not withheld: open or printed
  abbrev pub bare : Standing → ℕ → Bool
  bare st c = nat_lt c F.shape.cells && not (withheld st c)

  -- a page shows the figures of the bare cells
  abbrev pub shown : Standing → ℕ → Option ℕ
  shown st c = cond (bare st c) (Some (F.figure c)) None

  abbrev pub page_of : Standing → List ℕ
  page_of st = bytes F.shape.cells (shown st)

  -- THE SEARCH
  -- what it withholds first: each open cell
  abbrev pub newly : Standing → ℕ → Bool
  newly st c = bare st c && not (st.printed c)

  abbrev pub closed : Standing → Standing
  closed st = record { complement = λ c. st.complement c || newly st c; printed = st.printed }

  -- the cell c is opened again, if it is new and nobody is then exposed
  abbrev pub reopened : (ℕ → Bool) → ℕ → Standing → Standing
  reopened new c st = cond (new c && not (is_some (audit F (withheld (opened c st))))) (opened c st) st

  -- so are all below n, from the highest down
  abbrev pub reopen : (ℕ → Bool) → ℕ → Standing → Standing
  reopen new zero st = st
  reopen new (suc c) st = reopen new c (reopened new c st)

  abbrev pub searched : Standing → Standing
  searched st = reopen (newly st) F.shape.cells (closed st)

  -- REFUSALS
  -- the first entry of a list that cannot be withheld: it is no cell, or it is printed
  abbrev pub bad_entry : Standing → List ℕ → Option Refusal
  bad_entry st [] = None
  bad_entry st (c ∷ cs) = cond (nat_le F.shape.cells c) (Some (UnknownCell c)) (cond (st.printed c) (Some (AlreadyPrinted c)) (bad_entry st cs))

  -- why an act is refused, if it is
  abbrev pub refusal : Standing → Act → Option Refusal
  refusal st (withhold cs) = cond (nat_lt 512 (length cs)) (Some MemorySize) (bad_entry st cs)
  refusal st seek = None
  refusal st (print memory) = cond (nat_lt memory (19 * F.shape.cells)) (Some MemorySize) (exposure (audit F (withheld st)))
  refusal st (witness c side memory) =
      cond (nat_le F.shape.cells c) (Some (UnknownCell c))
      (cond (not (sensitive F.need c)) (Some (NotSensitive c))
      (cond (nat_lt memory F.shape.cells) (Some MemorySize)
      (cond (is_exposed F.shape (withheld st) F.figure (F.need c) c (side_of side)) (Some (Exposed c (side_of side))) None)))

  -- STANDINGS
  -- After an accepted withhold exactly the listed cells that are not sensitive are complements; an accepted print leaves every bare cell printed.
  abbrev pub accepted : Standing → Act → Standing
  accepted st (withhold cs) = record { complement = λ c. among c cs && not (sensitive F.need c); printed = st.printed }
  accepted st seek = searched st
  accepted st (print memory) = record { complement = st.complement; printed = λ c. st.printed c || bare st c }
  accepted st (witness c side memory) = st

  -- the standing after an act with this answer: a refused act changes nothing
  abbrev pub step : Standing → Act → Answer → Standing
  step st act (refused r) = st
  step st act (count n) = accepted st act
  step st act (page p) = accepted st act
  step st act (table t) = accepted st act

  -- ANSWERS
  abbrev pub complements : Standing → ℕ
  complements st = count_below F.shape.cells st.complement

  -- how many complements a search adds
  abbrev pub added : Standing → ℕ
  added st = count_below F.shape.cells (λ c. (searched st).complement c && not (st.complement c))

  -- A witness: any reading, with a figure for each cell, that is as far from the true figure of c as the need asks, on that side.
  pub record Witnesses (st : Standing) (c : ℕ) (side : Side) (figures : List ℕ) : Type 0 where
    pub each : length figures ≡ F.shape.cells
    pub reading : Reading F.shape (withheld st) F.figure (λ x. slice_index figures x)
    pub far : Away side (F.need c) (F.figure c) (slice_index figures c)

abbrev pub unless : Option Refusal → Answer → Answer
unless (Some r) a = refused r
unless None a = a

abbrev pub WitnessAnswer : Option Refusal → (List ℕ → Type 0) → Answer → Type 0
WitnessAnswer (Some r) W a = a ≡ refused r
WitnessAnswer None W a = (figures : List ℕ) × W figures × (a ≡ table figures)

-- The right answer to an act: only an accepted witness leaves a choice.
abbrev pub Right : Figures → Standing → Act → Answer → Type 0
Right F st (withhold cs) a = a ≡ unless (refusal F st (withhold cs)) (count (complements F (accepted F st (withhold cs))))
Right F st seek a = a ≡ count (added F st)
Right F st (print memory) a = a ≡ unless (refusal F st (print memory)) (page (page_of F st))
Right F st (witness c side memory) a = WitnessAnswer (refusal F st (witness c side memory)) (Witnesses F st c (side_of side)) a
