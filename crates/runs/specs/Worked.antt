-- A worked run on grid A: a list that is too weak for its page, a list that is too long, and the page.
use Rattle.std.specs.Prelude.{ℕ, List, [], ◌∷◌, replicate, codes}
use Rattle.refusals.specs.declared.Side.TheVariants.{Up}
use Rattle.refusals.specs.declared.Refusal.TheVariants.{MemorySize, Exposed}
use Rattle.readings.specs.Exposure.{Figures}
use Rattle.readings.specs.Worked.{grid_a, figures_a, table}
use Rattle.runs.specs.Acts.{withhold, print, refused, count, page}
use Rattle.runs.specs.Runs.{History, Run}
use Rattle.runs.specs.Pairs.{Settled}

-- only cell 0 is sensitive, and its need is 20
abbrev pub sheet_a : Figures
sheet_a = record { shape = grid_a; figure = figures_a; need = table (20 ∷ []) }

abbrev pub page_a : List ℕ
page_a = codes "0000             D\n0001             D\n0002           220\n0003             D\n0004             D\n0005           400\n0006           300\n0007           320\n0008           620\n"

-- the latest first: the complements 1 and 3 leave cell 0 exposed, 1, 3 and 4 do not, and a list of 513 entries changes nothing
abbrev pub run_a : History
run_a =
    (print 171, page page_a)
    ∷ (withhold (replicate 513 1), refused MemorySize)
    ∷ (withhold (1 ∷ 3 ∷ 4 ∷ []), count 3)
    ∷ (print 171, refused (Exposed 0 Up))
    ∷ (withhold (1 ∷ 3 ∷ []), count 2)
    ∷ []

pub record WorkedRun : Type 0 where
  pub settled : Settled sheet_a
  pub is_run : Run sheet_a run_a
