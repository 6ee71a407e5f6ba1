-- What a page spells, and what one other figure alters.
use Rattle.std.proofs.Common.{◌≡◌, ℕ, zero, suc, ◌+◌, ◌-◌, ◌*◌, ◌^◌, ◌<◌, ◌≤◌, true, List, [], ◌∷◌, ◌++◌, length, take, drop, replicate, Some, None, decimal, Option, sym, refl, ap, ◌∙◌, append_assoc, add-suc, arith}
use Rattle.std.specs.Str.Parse.{digits_value}
use Rattle.std.specs.Str.{all_ascii_digits}
use Rattle.std.proofs.lemmas.Bool.{ne_eqb, ltb-true}
use Rattle.std.proofs.lemmas.Str.Parse.{IsNumeralModel, numerals_by_value, tells_all_ascii_digits}
use Rattle.std.proofs.lemmas.Fmt.{digits_decimal, digits_value-decimal, decimal_nonempty}
use Rattle.std.proofs.lemmas.List.{drop-drop, drop_all, take_at, drop_at, append-nil}
use Rattle.page.specs.Page.{aligned, figure_text, line, page, fits, skip_blanks, word_value, spells}
use Rattle.page.specs.Writing.{line_over}
use Rattle.page.specs.Laws.{Printable, PageLaws}
use Rattle.page.proofs.Lines.{length_cell, length_figure, length_line}
use Rattle.page.proofs.Pages.{printable_below, length_page, page_same}

own : IsNumeralModel (λ ds. all_ascii_digits ds ≡ true) (digits_value 10)
own = numerals_by_value (λ ds. all_ascii_digits ds ≡ true) tells_all_ascii_digits

skip_blanks_lem : (k : ℕ) (text : List ℕ) → skip_blanks (replicate k 32 ++ text) ≡ skip_blanks text
skip_blanks_lem zero text = refl
skip_blanks_lem (suc k) text = skip_blanks_lem k text

word_digits : (bs : List ℕ) → 0 < length bs → all_ascii_digits bs ≡ true → word_value (skip_blanks bs) ≡ Some (digits_value 10 bs)
word_digits [] h d = absurd (omega arith)
word_digits (b ∷ bs) h d =
    let e = ne_eqb b 32 (λ e. omega (arith, (tells_all_ascii_digits.parts b bs d).0)) in
    rw (e, d)

word_figure : (s : Option ℕ) → fits s ≡ true → word_value (skip_blanks (aligned 32 13 (figure_text s))) ≡ s
word_figure (Some v) h =
    let l = ltb-true v (10 ^ 13) h in
    let f : v < 2 ^ 64 = omega arith in
    rw skip_blanks_lem (word_digits (decimal v) (decimal_nonempty v f) (digits_decimal own v f) ∙ ap Some (digits_value-decimal own v f))
word_figure None h = refl

-- the lines of k cells, from c on
abbrev lines : (ℕ → Option ℕ) → ℕ → ℕ → List ℕ
lines shows c zero = []
lines shows c (suc k) = lines shows c k ++ line (c + k) (shows (c + k))

page_lines : (shows : ℕ → Option ℕ) (c k : ℕ) → page (c + k) shows ≡ page c shows ++ lines shows c k
unfolding page
page_lines shows c zero = let e : c + 0 ≡ c = omega arith in rw e (sym (append-nil (page c shows)))
page_lines shows c (suc k) = rw (add-suc c k, page_lines shows c k) (append_assoc (page c shows) (lines shows c k) _)

-- the page around line c
page_around : (cells : ℕ) (shows : ℕ → Option ℕ) (c : ℕ) → c < cells → page cells shows ≡ page c shows ++ (line c (shows c) ++ lines shows (suc c) (cells - suc c))
unfolding page
page_around cells shows c h =
    let e : suc c + (cells - suc c) ≡ cells = omega arith in
    ap (λ n. page n shows) (sym e) ∙ page_lines shows (suc c) (cells - suc c) ∙ append_assoc (page c shows) (line c (shows c)) _

-- the columns of a line's figure
line_columns : (c : ℕ) (s : Option ℕ) (rest : List ℕ) → c < 10 ^ 4 → fits s ≡ true → take 13 (drop 5 (line c s ++ rest)) ≡ aligned 32 13 (figure_text s)
unfolding line
line_columns c s rest h f = from (aligned 48 4 (decimal c)) (aligned 32 13 (figure_text s)) (length_cell c h) (length_figure s f)
  where
    from : (number figure : List ℕ) → length number ≡ 4 → length figure ≡ 13 → take 13 (drop 5 ((number ++ (32 ∷ (figure ++ (10 ∷ [])))) ++ rest)) ≡ figure
    from number figure n g =
        let a = append_assoc number (32 ∷ (figure ++ (10 ∷ []))) rest in
        let b = append_assoc figure (10 ∷ []) rest in
        let d = drop-drop 1 4 (number ++ (32 ∷ (figure ++ (10 ∷ rest)))) in
        rw (a, b, ← d, drop_at number (32 ∷ (figure ++ (10 ∷ rest))) 4 n, take_at figure (10 ∷ rest) 13 g)

module _ (cells : ℕ) (shows : ℕ → Option ℕ) (p : Printable cells shows) (c : ℕ) (h : c < cells) where
  small : c < 10 ^ 4
  small = let few = p.few in omega arith

  length_before : length (page c shows) ≡ 19 * c
  length_before = length_page c shows (printable_below c cells shows (omega arith) p)

  pub page_spells : (rest : List ℕ) → spells (page cells shows ++ rest) c ≡ shows c
  unfolding spells
  page_spells rest =
      let q = page_around cells shows c h in
      let d = drop-drop 5 (19 * c) (page cells shows ++ rest) in
      let a = append_assoc (page c shows) (line c (shows c) ++ lines shows (suc c) (cells - suc c)) rest in
      let b = append_assoc (line c (shows c)) (lines shows (suc c) (cells - suc c)) rest in
      let s = line_columns c (shows c) (lines shows (suc c) (cells - suc c) ++ rest) small (p.fit c h) in
      rw (← d, q, a, b, drop_at (page c shows) _ (19 * c) length_before, s) (word_figure (shows c) (p.fit c h))

  module _ (other : ℕ → Option ℕ) (same : (i : ℕ) → (i ≡ c → ⊥) → other i ≡ shows i) where
    lines_after : (k : ℕ) → lines other (suc c) k ≡ lines shows (suc c) k
    lines_after zero = refl
    lines_after (suc k) = let e = same (suc c + k) (λ i. omega arith) in rw (lines_after k, e)

    pub page_altered : page cells other ≡ line_over (page cells shows) c (other c)
    unfolding line_over
    page_altered =
        let q = page_around cells shows c h in
        let m = length_line c (shows c) small (p.fit c h) in
        let d = drop-drop 19 (19 * c) (page cells shows) in
        page_around cells other c h
        ∙ rw (page_same c other shows (λ i l. same i (λ e. omega arith)), lines_after (cells - suc c))
        (rw (← d, q, take_at (page c shows) _ (19 * c) length_before, drop_at (page c shows) _ (19 * c) length_before, drop_at (line c (shows c)) _ 19 m))

page_ends : (cells : ℕ) (shows : ℕ → Option ℕ) → Printable cells shows → (c : ℕ) → cells ≤ c → spells (page cells shows) c ≡ None
unfolding spells
page_ends cells shows p c h =
    let l = length_page cells shows p in
    let past : length (page cells shows) ≤ 19 * c + 5 = omega arith in
    rw drop_all

pub page_laws : PageLaws
page_laws = record {
  long = length_page;
  spelled = λ cells shows rest p c h. page_spells cells shows p c h rest;
  ended = page_ends;
  altered = λ cells shows other c p h same. page_altered cells shows p c h other same;
}
