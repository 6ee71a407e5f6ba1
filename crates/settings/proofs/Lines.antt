-- How long a settings line can be.
use Rattle.std.proofs.Common.{ℕ, ◌≤◌, length, arith, length-append}
use Rattle.std.proofs.lemmas.Fmt.{length-decimal-le}
use Rattle.settings.specs.declared.choices.LayoutSetting.{LayoutSetting}
use Rattle.settings.specs.declared.choices.LayoutSetting.TheVariants as layouts
use Rattle.settings.specs.declared.choices.RuleSetting.{RuleSetting}
use Rattle.settings.specs.declared.choices.RuleSetting.TheVariants as rules
use Rattle.settings.specs.declared.numbers.Ending.{Ending}
use Rattle.settings.specs.declared.numbers.Ending.TheVariants.{Blank, Newline}
use Rattle.settings.specs.Line.{Short, ShortPair, ShortLayout, ShortRule, ShortLine, number_text, pair_text, layout_text, rule_text}

length_number : (end : Ending) (n : ℕ) → Short n → length (number_text end n) ≤ 5
length_number end n h = let a = length-decimal-le 4 n (omega arith) (omega arith) (omega arith) in simp length-append (omega arith)

length_pair : (end : Ending) (p : ℕ × ℕ) → ShortPair p → length (pair_text end p) ≤ 10
length_pair end p h =
    let a = length_number Blank p.0 h.0 in let b = length_number end p.1 h.1 in
    omega (arith, length-append (number_text Blank p.0) (number_text end p.1))

length_layout : (x : LayoutSetting) → ShortLayout x → length (layout_text x) ≤ 15
length_layout (layouts.Grid r c) h = omega (arith, length_pair Blank (r, c) h)
length_layout (layouts.List l) h = omega (arith, length_number Blank l h)

length_rule : (x : RuleSetting) → ShortRule x → length (rule_text x) ≤ 13
length_rule (rules.P p) h = omega (arith, length_number Newline p h)
length_rule (rules.Nk n k) h = omega (arith, length_pair Newline (n, k) h)

pub short_line : ShortLine
short_line s h = omega (arith, length_layout s.layout h.0, length_rule s.rule h.1, length-append (layout_text s.layout) (rule_text s.rule))
