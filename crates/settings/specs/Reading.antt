-- What it is to read a text off the front of bytes.
use Rattle.std.specs.Prelude.{◌≡◌, ℕ, ◌^◌, ◌<◌, ◌⊎◌, List, ◌++◌, decimal, Some, None, Ok, Err, Option, Result}
use Rattle.std.specs.Borrow.{Bor}
use Rattle.refusals.specs.declared.Refusal.{Refusal}
use Rattle.refusals.specs.declared.Refusal.TheVariants.{SettingsForm}
use Rattle.settings.specs.declared.choices.Settings.{Settings}
use Rattle.settings.specs.declared.numbers.Ending.TheVariants.{Blank}
use Rattle.settings.specs.declared.numbers.NumberFault.{NumberFault}
use Rattle.settings.specs.declared.numbers.NumberFault.TheVariants.{Form, TooLarge}
use Rattle.settings.specs.Line.{number_text, settings_text, UpTo, ShortSettings}

module _ {X : Type 0} (valid : X → Type 0) (text : X → List ℕ) (input : List ℕ) where
  -- the input is the text of x, and then the rest
  abbrev pub Opens : X → List ℕ → Type 0
  Opens x rest = valid x × (input ≡ text x ++ rest)

  -- this x and this rest, and no others
  abbrev pub Alone : X → List ℕ → Type 0
  Alone x rest = Opens x rest × ((y : X) (left : List ℕ) → Opens y left → (x ≡ y) × (rest ≡ left))

  -- no x at all
  abbrev pub Never : Type 0
  Never = (x : X) (rest : List ℕ) → Opens x rest → ⊥

  -- the x whose text the input begins with and the rest after it, or nothing where there is none
  abbrev pub Exactly : Option (X × Bor (List ℕ)) → Type 0
  Exactly (Some r) = Alone r.0 r.1.now
  Exactly None = Never

  -- the x whose text the input begins with and the rest after it, or what is wrong with the input where there is none
  abbrev pub Reads : (List ℕ → NumberFault → Type 0) → Result (X × Bor (List ℕ)) NumberFault → Type 0
  Reads wrong (Ok r) = Alone r.0 r.1.now
  Reads wrong (Err e) = Never × wrong input e

-- numbers above the greatest; those of 64 bits are enough, since a longer one begins with one of them
abbrev pub Above : ℕ → ℕ → Type 0
Above greatest n = (greatest < n) × (n < 2 ^ 64)

-- What is wrong where no number up to the greatest is read: the input begins with one above it, or with none above it either.
abbrev pub NumberWrong : ℕ → List ℕ → NumberFault → Type 0
NumberWrong greatest input TooLarge = (n : ℕ) × (rest : List ℕ) × Opens (Above greatest) decimal input n rest
NumberWrong greatest input Form = Never (Above greatest) decimal input

-- What is wrong with one text after another: what is wrong with the first; or, where that is read, with the second.
module _ {A : Type 0} (valid : A → Type 0) (text : A → List ℕ) (first second : List ℕ → NumberFault → Type 0) where
  abbrev pub FirstWrong : List ℕ → NumberFault → Type 0
  FirstWrong input e =
      (Never valid text input × first input e)
      ⊎ ((a : A) × (rest : List ℕ) × Opens valid text input a rest × second rest e)

abbrev pub PairWrong : ℕ → List ℕ → NumberFault → Type 0
PairWrong greatest = FirstWrong (UpTo greatest) (number_text Blank) (NumberWrong greatest) (NumberWrong greatest)

-- The settings whose line the input begins with and the rest after it, or the refusal where there are none.
abbrev pub ReadsSettings : List ℕ → Result (Settings × Bor (List ℕ)) Refusal → Type 0
ReadsSettings input (Ok r) = Alone ShortSettings settings_text input r.0 r.1.now
ReadsSettings input (Err e) = (e ≡ SettingsForm) × Never ShortSettings settings_text input
