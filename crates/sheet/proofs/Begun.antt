-- How a settled table stands: open, or sensitive where the need is above 0.
use Rattle.std.proofs.Common.{◌≡◌, ℕ, ◌<◌, ◌≤◌, Bool, true, false, cond, not, ltb, List, map, length, refl, ap, inl, inr}
use lib.ListN.{length-map}
use Rattle.std.proofs.lemmas.List.{get_or_past}
use Rattle.std.proofs.lemmas.Bool.{cases_lt}
use Rattle.layouts.specs.declared.memory.Row.{Row}
use Rattle.layouts.specs.declared.memory.Mark.{Mark}
use Rattle.layouts.specs.declared.memory.Mark.TheVariants.{Open, Sensitive}
use Rattle.readings.specs.Rows.{needs}
use Rattle.intake.specs.Marks.{mark_at, first_mark}
use Rattle.runs.specs.Acts.{fresh}
use Rattle.sheet.specs.Cells.{goes_with}
use Rattle.sheet.specs.Standing.{is_complement_mark, is_printed_mark, standing_of}

-- past the last row there is no mark
pub mark_past : (rows : List Row) (c : ℕ) → length rows ≤ c → mark_at rows c ≡ Open
mark_past rows c l = get_or_past (map (λ (r : Row). r.mark) rows) c Open (rw length-map l)

pub first_goes : (need : ℕ) (m : Mark) → m ≡ first_mark need → goes_with need m ≡ true
first_goes need m h = rw h (go (ltb 0 need) refl)
  where
    go : (b : Bool) → ltb 0 need ≡ b → goes_with need (cond b Sensitive Open) ≡ true
    go true e = e
    go false e = ap not e

first_bare : (need : ℕ) (m : Mark) → m ≡ first_mark need → (is_complement_mark m ≡ false) × (is_printed_mark m ≡ false)
first_bare need m h = rw h (go (ltb 0 need))
  where
    go : (b : Bool) → (is_complement_mark (cond b Sensitive Open) ≡ false) × (is_printed_mark (cond b Sensitive Open) ≡ false)
    go true = (refl, refl)
    go false = (refl, refl)

pub begun_fresh : (rows : List Row) → ((c : ℕ) → c < length rows → mark_at rows c ≡ first_mark (needs rows c)) → standing_of rows ≡ fresh
begun_fresh rows begun = λ i. record { complement = λ c. (at c).0 i; printed = λ c. (at c).1 i }
  where
    at : (c : ℕ) → (is_complement_mark (mark_at rows c) ≡ false) × (is_printed_mark (mark_at rows c) ≡ false)
    at c = elim (cases_lt c (length rows)) [
      | inl l ↦ first_bare (needs rows c) (mark_at rows c) (begun c l)
      | inr l ↦ (ap is_complement_mark (mark_past rows c l), ap is_printed_mark (mark_past rows c l))
    ]
