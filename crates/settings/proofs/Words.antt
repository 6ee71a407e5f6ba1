-- Reading a text that stands under a word.
use Rattle.std.proofs.Common.{◌≡◌, ℕ, suc, ◌+◌, ◌-◌, ◌≤◌, List, [], ◌∷◌, ◌++◌, length, get_or, take, drop, codes, Some, None, Ok, Err, Option, Result, sym, refl, ap, ◌∙◌, subst, arith}
use Rattle.std.specs.Borrow.{Bor}
use Rattle.std.specs.Result.{result_ok}
use Rattle.std.proofs.lemmas.List.{drop_more, append_cancel_left, take_rest}
use Rattle.std.proofs.lemmas.Option.{none-some, same_Some}
use Rattle.std.proofs.lemmas.Slice.Eq.{HasBytesAt}
use Rattle.settings.specs.declared.choices.LayoutSetting.TheVariants as layouts
use Rattle.settings.specs.declared.choices.LayoutSetting.{LayoutSetting}
use Rattle.settings.specs.declared.choices.RuleSetting.TheVariants as rules
use Rattle.settings.specs.declared.choices.RuleSetting.{RuleSetting}
use Rattle.settings.specs.declared.numbers.Ending.TheVariants.{Blank, Newline}
use Rattle.settings.specs.declared.numbers.NumberFault.{NumberFault}
use Rattle.settings.specs.Line.{Short, ShortPair, ShortLayout, ShortRule, number_text, pair_text, layout_text, rule_text}
use Rattle.settings.specs.Reading.{Opens, Alone, Exactly, Reads}

-- what stands at i, where the word does
stand_at : (word s : List ℕ) (i : ℕ) → i + length word ≤ length s → HasBytesAt s i word → drop i s ≡ word ++ drop (i + length word) s
stand_at [] s i h b = let e : i + 0 ≡ i = omega arith in rw e
stand_at (a ∷ bs) s i h b =
    let e : i + 1 + length bs ≡ i + suc (length bs) = omega arith in
    let n : suc i ≡ i + 1 = omega arith in
    let r = stand_at bs s (i + 1) (omega arith) (rw n at b.1) in
    drop_more s i 0 (omega arith) ∙ rw (b.0, r, e)

-- Under a word stands what is made of a part: every x whose text begins with the word is made so, and what follows the word is the part's text.
pub record Under {A X : Type 0} (valid_a : A → Type 0) (text_a : A → List ℕ) (valid : X → Type 0) (text : X → List ℕ) (make : A → X) (word : List ℕ) : Type 0 where
  pub kept : (a : A) → valid_a a → valid (make a)
  pub texts : (a : A) (rest : List ℕ) → text (make a) ++ rest ≡ word ++ (text_a a ++ rest)
  pub back : (x : X) (mid rest : List ℕ) → valid x → word ++ mid ≡ text x ++ rest → (a : A) × (x ≡ make a) × Opens valid_a text_a mid a rest

module _ {A X : Type 0} {valid_a : A → Type 0} {text_a : A → List ℕ} {valid : X → Type 0} {text : X → List ℕ} {make : A → X} {word : List ℕ}
    (under : Under valid_a text_a valid text make word) (input : List ℕ) (long : length word ≤ length input) (stand : HasBytesAt input 0 word) where
  -- what follows the word, as a pattern `rest @ ..` has it
  abbrev after_word : List ℕ
  after_word = take (length input - length word) (drop (length word) input)

  opened : input ≡ word ++ after_word
  opened =
      let e : 0 + length word ≡ length word = omega arith in
      stand_at word input 0 (omega arith) stand ∙ rw (e, take_rest input (length word))

  pub under_none : (r : Result (A × Bor (List ℕ)) NumberFault) (wrong : List ℕ → NumberFault → Type 0) → Reads valid_a text_a after_word wrong r → None ≡ result_ok r
      → (o : Option (X × Bor (List ℕ))) → o ≡ None → Exactly valid text input o
  under_none (Ok y) wrong reads is o e = absurd (none-some y is)
  under_none (Err f) wrong reads is o e =
      rw e (λ x rest opens. let b = under.back x after_word rest opens.0 (sym opened ∙ opens.1) in reads.0 b.0 rest b.2)

  pub under_some : (r : Result (A × Bor (List ℕ)) NumberFault) (wrong : List ℕ → NumberFault → Type 0) → Reads valid_a text_a after_word wrong r
      → (a : A) (rest : Bor (List ℕ)) → Some (a, rest) ≡ result_ok r → (x : X) → x ≡ make a → Alone valid text input x rest.now
  under_some (Err f) wrong reads a rest is x made = absurd (none-some _ (sym is))
  under_some (Ok y) wrong reads a rest is x made =
      let alone : Alone valid_a text_a after_word a rest.now =
      subst (λ (z : A × Bor (List ℕ)). Alone valid_a text_a after_word z.0 z.1.now) (same_Some y (a, rest) (sym is)) reads in
      rw made (
        (under.kept a alone.0.0, opened ∙ ap (λ s. word ++ s) alone.0.1 ∙ sym (under.texts a rest.now)),
        λ x left opens.
            let b = under.back x after_word left opens.0 (sym opened ∙ opens.1) in
            let h = alone.1 b.0 left b.2 in
            (ap make h.0 ∙ sym b.1, h.1),
      )

-- THE FOUR WORDS
abbrev pub grid : ℕ × ℕ → LayoutSetting
grid p = layouts.Grid p.0 p.1

grid_back : (x : LayoutSetting) (mid rest : List ℕ) → ShortLayout x → codes "grid " ++ mid ≡ layout_text x ++ rest
    → (a : ℕ × ℕ) × (x ≡ grid a) × Opens ShortPair (pair_text Blank) mid a rest
grid_back (layouts.Grid r c) mid rest v e = ((r, c), refl, (v, append_cancel_left (codes "grid ") _ _ e))
grid_back (layouts.List l) mid rest v e = absurd (omega (arith, ap (λ s. get_or s 0 0) e))

pub under_grid : Under ShortPair (pair_text Blank) ShortLayout layout_text grid (codes "grid ")
under_grid = record { kept = λ a v. v; texts = λ a rest. refl; back = grid_back }

list_back : (x : LayoutSetting) (mid rest : List ℕ) → ShortLayout x → codes "list " ++ mid ≡ layout_text x ++ rest
    → (a : ℕ) × (x ≡ layouts.List a) × Opens Short (number_text Blank) mid a rest
list_back (layouts.List l) mid rest v e = (l, refl, (v, append_cancel_left (codes "list ") _ _ e))
list_back (layouts.Grid r c) mid rest v e = absurd (omega (arith, ap (λ s. get_or s 0 0) e))

pub under_list : Under Short (number_text Blank) ShortLayout layout_text layouts.List (codes "list ")
under_list = record { kept = λ a v. v; texts = λ a rest. refl; back = list_back }

p_back : (x : RuleSetting) (mid rest : List ℕ) → ShortRule x → codes "p " ++ mid ≡ rule_text x ++ rest
    → (a : ℕ) × (x ≡ rules.P a) × Opens Short (number_text Newline) mid a rest
p_back (rules.P p) mid rest v e = (p, refl, (v, append_cancel_left (codes "p ") _ _ e))
p_back (rules.Nk n k) mid rest v e = absurd (omega (arith, ap (λ s. get_or s 0 0) e))

pub under_p : Under Short (number_text Newline) ShortRule rule_text rules.P (codes "p ")
under_p = record { kept = λ a v. v; texts = λ a rest. refl; back = p_back }

abbrev pub nk : ℕ × ℕ → RuleSetting
nk a = rules.Nk a.0 a.1

nk_back : (x : RuleSetting) (mid rest : List ℕ) → ShortRule x → codes "nk " ++ mid ≡ rule_text x ++ rest
    → (a : ℕ × ℕ) × (x ≡ nk a) × Opens ShortPair (pair_text Newline) mid a rest
nk_back (rules.Nk n k) mid rest v e = ((n, k), refl, (v, append_cancel_left (codes "nk ") _ _ e))
nk_back (rules.P p) mid rest v e = absurd (omega (arith, ap (λ s. get_or s 0 0) e))

pub under_nk : Under ShortPair (pair_text Newline) ShortRule rule_text nk (codes "nk ")
under_nk = record { kept = λ a v. v; texts = λ a rest. refl; back = nk_back }
