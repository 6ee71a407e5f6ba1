-- The grammar of the settings line: the one text of every setting.
use Rattle.std.specs.Prelude.{ℕ, ◌≤◌, List, [], ◌∷◌, ◌++◌, length, codes, decimal}
use Rattle.settings.specs.declared.choices.LayoutSetting.{LayoutSetting}
use Rattle.settings.specs.declared.choices.LayoutSetting.TheVariants as layouts
use Rattle.settings.specs.declared.choices.RuleSetting.{RuleSetting}
use Rattle.settings.specs.declared.choices.RuleSetting.TheVariants as rules
use Rattle.settings.specs.declared.choices.Settings.{Settings}
use Rattle.settings.specs.declared.numbers.Ending.{Ending}
use Rattle.settings.specs.declared.numbers.Ending.TheVariants.{Blank, Newline}

-- the byte of an ending
abbrev pub byte_of : Ending → ℕ
byte_of Blank = 32
byte_of Newline = 10

-- a number in decimal, and the byte that ends it
abbrev pub number_text : Ending → ℕ → List ℕ
number_text end n = decimal n ++ (byte_of end ∷ [])

-- two numbers, a blank between them
abbrev pub pair_text : Ending → ℕ × ℕ → List ℕ
pair_text end p = number_text Blank p.0 ++ number_text end p.1

abbrev pub layout_text : LayoutSetting → List ℕ
layout_text (layouts.Grid rows columns) = codes "grid " ++ pair_text Blank (rows, columns)
layout_text (layouts.List leaves) = codes "list " ++ number_text Blank leaves

abbrev pub rule_text : RuleSetting → List ℕ
rule_text (rules.P percent) = codes "p " ++ number_text Newline percent
rule_text (rules.Nk n k) = codes "nk " ++ pair_text Newline (n, k)

-- the line with its newline
abbrev pub settings_text : Settings → List ℕ
settings_text s = layout_text s.layout ++ rule_text s.rule

-- Numbers up to a greatest.
abbrev pub UpTo : ℕ → ℕ → Type 0
UpTo greatest n = n ≤ greatest

abbrev pub PairUpTo : ℕ → ℕ × ℕ → Type 0
PairUpTo greatest p = UpTo greatest p.0 × UpTo greatest p.1

-- A line has numbers of at most four digits.
abbrev pub Short : ℕ → Type 0
Short n = UpTo 9999 n

abbrev pub ShortPair : ℕ × ℕ → Type 0
ShortPair p = PairUpTo 9999 p

abbrev pub ShortLayout : LayoutSetting → Type 0
ShortLayout (layouts.Grid rows columns) = ShortPair (rows, columns)
ShortLayout (layouts.List leaves) = Short leaves

abbrev pub ShortRule : RuleSetting → Type 0
ShortRule (rules.P percent) = Short percent
ShortRule (rules.Nk n k) = ShortPair (n, k)

abbrev pub ShortSettings : Settings → Type 0
ShortSettings s = ShortLayout s.layout × ShortRule s.rule

-- Every line has at most 32 bytes with its newline.
abbrev pub ShortLine : Type 0
ShortLine = (s : Settings) → ShortSettings s → length (settings_text s) ≤ 32
