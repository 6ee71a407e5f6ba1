-- The text that a deposit is made of: the settings line, and then a line for each contribution.
use Rattle.std.specs.Prelude.{◌≡◌, ℕ, List, ◌++◌}
use Rattle.std.specs.List.{flat_map, AllByRecursion}
use Rattle.layouts.specs.declared.memory.Contribution.{Contribution}
use Rattle.settings.specs.Asked.{shape_asked}
use Rattle.settings.specs.Line.{number_text, pair_text, settings_text, UpTo, PairUpTo, ShortSettings}
use Rattle.settings.specs.declared.choices.Settings.{Settings}
use Rattle.settings.specs.declared.numbers.Ending.TheVariants.{Blank, Newline}

abbrev pub cells_of : Settings → ℕ
cells_of s = (shape_asked s.layout).cells

-- leaf, company and amount, one blank apart, and a newline
abbrev pub contribution_text : Contribution → List ℕ
contribution_text x = number_text Blank x.leaf ++ pair_text Newline (x.company, x.amount)

-- numbers of 32 bits
abbrev pub Small : ℕ → Type 0
Small n = UpTo 4294967295 n

abbrev pub SmallPair : ℕ × ℕ → Type 0
SmallPair p = PairUpTo 4294967295 p

abbrev pub SmallContribution : Contribution → Type 0
SmallContribution x = Small x.leaf × SmallPair (x.company, x.amount)

-- The input is the text of these contributions.
pub record Lines (input : List ℕ) (xs : List Contribution) : Type 0 where
  pub small : AllByRecursion SmallContribution xs
  pub is : input ≡ flat_map contribution_text xs

-- The input is the text of these settings and contributions.
pub record Text (input : List ℕ) (s : Settings) (xs : List Contribution) : Type 0 where
  pub short : ShortSettings s
  pub small : AllByRecursion SmallContribution xs
  pub is : input ≡ settings_text s ++ flat_map contribution_text xs
