-- What a call for a witness answers.
use Rattle.std.specs.Prelude.{ℕ, Bool, cond, not, Ok, Err, Result, nat_lt}
use Rattle.refusals.specs.declared.Refusal.{Refusal}
use Rattle.refusals.specs.declared.Refusal.TheVariants.{Exposed, MemorySize, NotSensitive, UnknownCell}
use Rattle.refusals.specs.declared.Side.{Side}
use Rattle.readings.specs.Exposure.{Figures, sensitive, is_told}

-- The cell count, unless the cell is none of the table, or not sensitive, or the memory has fewer numbers than the table has cells,
-- or the cell is exposed on that side: the first of these that holds is the refusal.
abbrev pub witness_answer : Figures → (ℕ → Bool) → ℕ → Side → ℕ → Result ℕ Refusal
witness_answer F withheld cell side memory =
    cond (not (nat_lt cell F.shape.cells)) (Err (UnknownCell cell))
    (cond (not (sensitive F.need cell)) (Err (NotSensitive cell))
    (cond (nat_lt memory F.shape.cells) (Err MemorySize)
    (cond (is_told F withheld cell side) (Err (Exposed cell side)) (Ok F.shape.cells))))
