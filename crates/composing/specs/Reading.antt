-- What it is to read contributions off the front of a text, and to make a deposit of a whole text.
use Rattle.std.specs.Prelude.{◌≡◌, ℕ, ◌+◌, ◌<◌, ◌⊎◌, List, ◌++◌, length, Some, None, Ok, Err, vec_items, Result, Vec}
use Rattle.std.specs.Borrow.{Bor}
use Rattle.std.specs.declared.alloc.Global.{Global}
use Rattle.std.specs.List.{flat_map, AllByRecursion}
use Rattle.layouts.specs.declared.memory.Contribution.{Contribution}
use Rattle.settings.specs.Line.{number_text, settings_text, ShortSettings}
use Rattle.settings.specs.Reading.{Alone, Never, FirstWrong, NumberWrong, PairWrong}
use Rattle.settings.specs.declared.numbers.Ending.TheVariants.{Blank}
use Rattle.settings.specs.declared.numbers.NumberFault.{NumberFault}
use Rattle.settings.specs.declared.numbers.NumberFault.TheVariants as numbers
use Rattle.settings.specs.declared.choices.Settings.{Settings}
use Rattle.composing.specs.declared.faults.Fault.{Fault}
use Rattle.composing.specs.declared.faults.Fault.TheVariants.{Settings as NoSettings, Form, TooLarge, OutOfMemory}
use Rattle.composing.specs.Composed.{fault_of}
use Rattle.composing.specs.Deposit.{deposit}
use Rattle.composing.specs.Text.{cells_of, contribution_text, Small, SmallContribution, Lines, Text}

-- what is wrong with a line that is no contribution
abbrev pub ContributionWrong : List ℕ → NumberFault → Type 0
ContributionWrong = FirstWrong Small (number_text Blank) (NumberWrong 4294967295) (PairWrong 4294967295)

-- how it is told of the line n
abbrev pub line_fault : ℕ → NumberFault → Fault
line_fault n numbers.Form = Form n
line_fault n numbers.TooLarge = TooLarge n

-- the fault tells what is wrong with the line n, where the input begins
abbrev pub OnLine : ℕ → List ℕ → Fault → Type 0
OnLine n input e = (f : NumberFault) × ContributionWrong input f × (e ≡ line_fault n f)

-- the contribution whose text the input begins with and the rest after it; a fault of the line n where there is none
abbrev pub ReadsLine : ℕ → List ℕ → Result (Contribution × Bor (List ℕ)) Fault → Type 0
ReadsLine n input (Ok r) = Alone SmallContribution contribution_text input r.0 r.1.now
ReadsLine n input (Err e) = Never SmallContribution contribution_text input × OnLine n input e

-- The contributions xs can be read off the input, and after them there is something that is none; the first stands on line 2.
pub record Stops (input : List ℕ) (xs : List Contribution) (rest : List ℕ) (e : Fault) : Type 0 where
  pub small : AllByRecursion SmallContribution xs
  pub is : input ≡ flat_map contribution_text xs ++ rest
  pub left : 0 < length rest
  pub never : Never SmallContribution contribution_text rest
  pub line : OnLine (length xs + 2) rest e

-- The input is the text of no contributions, and the fault is told of the first line that breaks the form.
pub record Broken (input : List ℕ) (e : Fault) : Type 0 where
  pub none : (ys : List Contribution) → Lines input ys → ⊥
  pub xs : List Contribution
  pub rest : List ℕ
  pub stops : Stops input xs rest e

-- the contributions whose text the input is, and no others; a fault where there are none, or memory is wanting
abbrev pub ReadsAll : List ℕ → Result (Vec Contribution Global) Fault → Type 0
ReadsAll input (Ok v) = Lines input (vec_items v) × ((ys : List Contribution) → Lines input ys → vec_items v ≡ ys)
ReadsAll input (Err e) = (e ≡ OutOfMemory) ⊎ Broken input e

-- Why a text is refused: it begins with no settings line; a line after that breaks the form; or no deposit can hold the contributions.
pub data Why (input : List ℕ) (e : Fault) : Type 0 where
  no_settings : Never ShortSettings settings_text input → e ≡ NoSettings → Why input e
  broken : (s : Settings) (rest : List ℕ) → ShortSettings s → input ≡ settings_text s ++ rest → Broken rest e → Why input e
  unheld : (s : Settings) (xs : List Contribution) → Text input s xs → fault_of (cells_of s) xs ≡ Some e → Why input e

-- The settings line again and the deposit, where the input is a text whose contributions have no fault. A refusal has its
-- reason, unless memory is wanting, and that of a text is the fault of its contributions.
abbrev pub ComposesText : List ℕ → Result (Vec ℕ Global) Fault → Type 0
ComposesText input (Ok v) =
    (s : Settings) × (xs : List Contribution)
    × (Text input s xs × (fault_of (cells_of s) xs ≡ None) × (vec_items v ≡ settings_text s ++ deposit (cells_of s) xs))
ComposesText input (Err e) =
    (e ≡ OutOfMemory) ⊎ (Why input e × ((s : Settings) (xs : List Contribution) → Text input s xs → fault_of (cells_of s) xs ≡ Some e))
