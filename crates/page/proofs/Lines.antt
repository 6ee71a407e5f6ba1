-- What the writes into one line leave, and how long a line is.
use Rattle.std.proofs.Common.{◌≡◌, ℕ, ◌+◌, ◌-◌, ◌*◌, ◌^◌, ◌<◌, ◌≤◌, true, List, [], ◌∷◌, ◌++◌, length, take, drop, replicate, set, Some, None, decimal, Option, sym, refl, ap, ◌∙◌, append_assoc, arith, length-append}
use lib.ListN.{length-replicate}
use Rattle.std.proofs.lemmas.Fmt.{length-decimal-le}
use Rattle.std.proofs.lemmas.List.{drop-drop, drop-set, take-set, drop_at, take-append-drop, take-append-le, take-replicate}
use Rattle.std.proofs.Math.Seq.{take-append-add, drop-append-add}
use Rattle.std.proofs.lemmas.Bool.{ltb-true}
use borrow.Rule.Slice.PartMut.{put_mid}
use Rattle.page.specs.Page.{aligned, figure_text, line, fits}
use Rattle.page.specs.Writing.{line_over}

pub length_aligned : (fill width : ℕ) (text : List ℕ) → length text ≤ width → length (aligned fill width text) ≡ width
length_aligned fill width text h = simp (length-append, length-replicate) (omega arith)

pub length_number : (c : ℕ) → c < 10 ^ 4 → length (decimal c) ≤ 4
length_number c h = length-decimal-le 4 c (omega arith) h (omega arith)

pub length_cell : (c : ℕ) → c < 10 ^ 4 → length (aligned 48 4 (decimal c)) ≡ 4
length_cell c h = length_aligned 48 4 (decimal c) (length_number c h)

pub length_digits : (v : ℕ) → v < 10 ^ 13 → length (decimal v) ≤ 13
length_digits v h = length-decimal-le 13 v (omega arith) h (omega arith)

pub length_text : (s : Option ℕ) → fits s ≡ true → length (figure_text s) ≤ 13
length_text (Some v) h = length_digits v (ltb-true v (10 ^ 13) h)
length_text None h = omega arith

pub length_figure : (s : Option ℕ) → fits s ≡ true → length (aligned 32 13 (figure_text s)) ≡ 13
length_figure s h = length_aligned 32 13 (figure_text s) (length_text s h)

pub length_line : (c : ℕ) (s : Option ℕ) → c < 10 ^ 4 → fits s ≡ true → length (line c s) ≡ 19
unfolding line
length_line c s h f =
    let n = length_cell c h in
    let g = length_figure s f in
    simp (length-append (aligned 48 4 (decimal c)), length-append (aligned 32 13 (figure_text s))) (omega arith)

-- a text written over the end of so many columns of fill
aligned_over : (fill width start : ℕ) (front text back new : List ℕ) → length text ≤ width → start + length text ≡ length front + width
    → take start new ≡ take start (front ++ (replicate width fill ++ back))
    → drop start new ≡ text ++ drop (length front + width) (front ++ (replicate width fill ++ back))
    → new ≡ front ++ (aligned fill width text ++ back)
aligned_over fill width start front text back new h at before written =
    let w = width - length text in
    let s : start ≡ length front + w = omega arith in
    let few : w ≤ width = omega arith in
    let most : w ≤ length (replicate width fill) = simp length-replicate few in
    let all : length (replicate width fill) ≡ width = length-replicate width fill in
    let kept : take start new ≡ front ++ replicate w fill = before ∙ rw (s, take-append-add, take-append-le, take-replicate) in
    let rest : drop start new ≡ text ++ back = written ∙ rw (drop-append-add, drop_at (replicate width fill) back width all) in
    sym (take-append-drop start new) ∙ rw (kept, rest) (append_assoc front (replicate w fill) (text ++ back) ∙ ap (λ t. front ++ t) (sym (append_assoc (replicate w fill) text back)))

-- the number of the cell in the first four columns
abbrev pub numbered : ℕ → List ℕ
numbered c = aligned 48 4 (decimal c) ++ (32 ∷ (replicate 13 32 ++ (10 ∷ [])))

pub number_written : (c start : ℕ) (old new : List ℕ) → c < 10 ^ 4 → old ≡ replicate 4 48 ++ (32 ∷ (replicate 13 32 ++ (10 ∷ []))) → start + length (decimal c) ≡ 4
    → take start new ≡ take start old → drop start new ≡ decimal c ++ drop 4 old → new ≡ numbered c
number_written c start old new h is at before written =
    aligned_over 48 4 start [] (decimal c) (32 ∷ (replicate 13 32 ++ (10 ∷ []))) new (omega arith) at (before ∙ ap (take start) is) (written ∙ ap (λ t. decimal c ++ drop 4 t) is)

-- and the figure, or the letter D, in the last 13
pub figure_written : (c start : ℕ) (s : Option ℕ) (old new : List ℕ) → c < 10 ^ 4 → fits s ≡ true → old ≡ numbered c → start + length (figure_text s) ≡ 18
    → take start new ≡ take start old → drop start new ≡ figure_text s ++ drop 18 old → new ≡ line c s
unfolding line
figure_written c start s old new h f is at before written =
    let front = aligned 48 4 (decimal c) ++ (32 ∷ []) in
    let five : length front ≡ 5 = simp (length-append (aligned 48 4 (decimal c))) (omega (arith, length_cell c h)) in
    let so : old ≡ front ++ (replicate 13 32 ++ (10 ∷ [])) = is ∙ sym (append_assoc (aligned 48 4 (decimal c)) (32 ∷ []) (replicate 13 32 ++ (10 ∷ []))) in
    aligned_over 32 13 start front (figure_text s) (10 ∷ []) new (length_text s f) (omega arith) (before ∙ ap (take start) so) (written ∙ ap (λ t. figure_text s ++ drop 18 t) so ∙ rw five)
    ∙ append_assoc (aligned 48 4 (decimal c)) (32 ∷ []) (aligned 32 13 (figure_text s) ++ (10 ∷ []))

-- the letter D in the last of them
pub letter_written : (c : ℕ) (old : List ℕ) → c < 10 ^ 4 → old ≡ numbered c → set old 17 68 ≡ line c None
letter_written c old h is =
    let long : 17 < length old = omega (arith, simp (length-append (aligned 48 4 (decimal c))) at (ap length is), length_cell c h) in
    figure_written c 17 None old (set old 17 68) h refl is refl (take-set old 17 68) (drop-set old 17 68 long)

-- the memory around a line
pub line_over_lem : (c : ℕ) (s : Option ℕ) (memory part : List ℕ) → part ≡ line c s → put_mid (19 * c) (19 * c + 19 - 19 * c) memory part ≡ line_over memory c s
unfolding line_over
line_over_lem c s memory part g =
    let k : 19 * c + 19 - 19 * c ≡ 19 = omega arith in
    rw (k, g, drop-drop 19 (19 * c) memory)

-- what writing the columns of a line goes by
pub ruleset columns = (length_number, length_digits, number_written, figure_written, letter_written)
