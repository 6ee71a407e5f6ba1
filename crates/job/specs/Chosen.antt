-- The meaning of the layout and of the rule that a settings line chooses.
use Rattle.std.specs.Prelude.{◌≡◌, ℕ, Bool, true, false, List, Result, MatchResult}
use Rattle.refusals.specs.declared.Refusal.{Refusal}
use Rattle.refusals.specs.declared.Refusal.TheVariants.{LayoutSize, RuleRange}
use Rattle.layouts.specs.Shape.{Shape}
use Rattle.layouts.specs.Layouts.{grid, listed, grid_size, list_size}
use Rattle.rules.specs.Needs.{p_need, p_range, nk_need, nk_range}
use Rattle.rules.specs.Told.{Told}
use Rattle.settings.specs.Asked.{shape_asked}
use Rattle.settings.specs.declared.choices.LayoutSetting.{LayoutSetting}
use Rattle.settings.specs.declared.choices.LayoutSetting.TheVariants.{Grid as grid_of, List as list_of}
use Rattle.settings.specs.declared.choices.RuleSetting.{RuleSetting}
use Rattle.settings.specs.declared.choices.RuleSetting.TheVariants.{P as p_of, Nk as nk_of}
use Rattle.job.specs.declared.chosen_layout.ChosenLayout.{ChosenLayout}
use Rattle.job.specs.declared.chosen_layout.ChosenLayout.TheVariants.{Grid, Leaves}
use Rattle.job.specs.declared.chosen_rule.ChosenRule.{ChosenRule}
use Rattle.job.specs.declared.chosen_rule.ChosenRule.TheVariants.{P, Nk}

abbrev pub shape_of : ChosenLayout → Shape
shape_of (Grid g) = grid g.rows g.columns
shape_of (Leaves l) = listed l.count

abbrev pub meaning_of : ChosenRule → List ℕ → ℕ
meaning_of (P p) xs = p_need p.percent xs
meaning_of (Nk r) xs = nk_need r.n r.k xs

abbrev pub ToldOf : ChosenRule → List ℕ → Type 0
ToldOf (P p) xs = Told p.told xs
ToldOf (Nk r) xs = Told r.told xs

-- what else a settings line asks for, and whether it is within its range
abbrev pub layout_range : LayoutSetting → Bool
layout_range (grid_of r c) = grid_size r c
layout_range (list_of n) = list_size n

abbrev pub meaning_asked : RuleSetting → List ℕ → ℕ
meaning_asked (p_of p) xs = p_need p xs
meaning_asked (nk_of n k) xs = nk_need n k xs

abbrev pub rule_range : RuleSetting → Bool
rule_range (p_of p) = p_range p
rule_range (nk_of n k) = nk_range n k

-- The result of making what a settings line asks for: the layout or the rule of that meaning, or the refusal of one out of its range.
abbrev pub MakesLayout : LayoutSetting → Result ChosenLayout Refusal → Type 0
MakesLayout setting r =
    MatchResult r (λ l. (layout_range setting ≡ true) × (shape_of l ≡ shape_asked setting)) (λ e. (layout_range setting ≡ false) × (e ≡ LayoutSize))

abbrev pub MakesRule : RuleSetting → Result ChosenRule Refusal → Type 0
MakesRule setting r =
    MatchResult r (λ m. (rule_range setting ≡ true) × ((xs : List ℕ) → meaning_of m xs ≡ meaning_asked setting xs))
    (λ e. (rule_range setting ≡ false) × (e ≡ RuleRange))
