-- The number of each refusal, the cell and the side that it names, and the line that tells them.
use Rattle.std.specs.Prelude.{ℕ, cond, List, ◌++◌, Some, None, Option, codes, decimal, ◌==◌}
use Rattle.std.specs.Option.{option_map_or, unwrap_or}
use Rattle.refusals.specs.declared.Side.{Side}
use Rattle.refusals.specs.declared.Side.TheVariants.{Up, Down}
use Rattle.refusals.specs.declared.Refusal.{Refusal}
use Rattle.refusals.specs.declared.Refusal.TheVariants.{LayoutSize, RuleRange, LayoutTooLarge, UnknownCell, NotALeaf, AlreadyPrinted, NotSensitive, AmountTooLarge, TooManyContributions, MemorySize, Exposed, DepositLength, DepositCells, LinkTooLarge, RecordReached, RecordUnreached, SettingsForm, OutOfMemory}

abbrev pub side_number : Side → ℕ
side_number Up = 1
side_number Down = 2

-- the side that a number asks for: 1 is up, and any other counts as down
abbrev pub side_of : ℕ → Side
side_of n = cond (n == 1) Up Down

-- what is told of a refusal: its number, and the cell and the side that it names, if it names them
pub record Line : Type 0 where
  pub number : ℕ
  pub cell : Option ℕ
  pub side : Option Side

abbrev pub plain : ℕ → Line
plain n = record { number = n; cell = None; side = None }

abbrev pub naming : ℕ → ℕ → Line
naming n c = record { number = n; cell = Some c; side = None }

abbrev pub line : Refusal → Line
line LayoutSize = plain 1
line RuleRange = plain 2
line LayoutTooLarge = plain 3
line (UnknownCell c) = naming 4 c
line (NotALeaf c) = naming 5 c
line (AlreadyPrinted c) = naming 6 c
line (NotSensitive c) = naming 7 c
line (AmountTooLarge c) = naming 8 c
line TooManyContributions = plain 9
line MemorySize = plain 10
line (Exposed c s) = record { number = 11; cell = Some c; side = Some s }
line DepositLength = plain 12
line DepositCells = plain 13
line (LinkTooLarge c) = naming 14 c
line (RecordReached c) = naming 15 c
line RecordUnreached = plain 16
line SettingsForm = plain 17
line OutOfMemory = plain 99

-- the line in letters, as in "refused 17 cell 0 side 0": 0 stands where no cell, or no side, is named
abbrev pub text : Refusal → List ℕ
text r = codes "refused " ++ (decimal (line r).number ++ (codes " cell " ++ (decimal (unwrap_or (line r).cell 0) ++ (codes " side " ++ decimal (option_map_or side_number (line r).side 0)))))
