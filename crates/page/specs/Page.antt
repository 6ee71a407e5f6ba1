-- What a page shows, and what its bytes spell.
use Rattle.std.specs.Prelude.{ℕ, zero, suc, ◌+◌, ◌-◌, ◌*◌, ◌^◌, Bool, true, cond, List, [], ◌∷◌, ◌++◌, length, take, drop, replicate, Some, None, codes, decimal, Option, ◌==◌, nat_lt}
use Rattle.std.specs.Str.Parse.{digits_value}
use Rattle.std.specs.Str.{all_ascii_digits}

-- a text, right-aligned in so many columns
abbrev pub aligned : ℕ → ℕ → List ℕ → List ℕ
aligned fill width text = replicate (width - length text) fill ++ text

-- a figure in decimal, or the letter D where it is withheld
abbrev pub figure_text : Option ℕ → List ℕ
figure_text (Some v) = decimal v
figure_text None = codes "D"

-- the cell's number in four digits, a blank, 13 columns, a newline
unfoldable pub line : ℕ → Option ℕ → List ℕ
line c shown = aligned 48 4 (decimal c) ++ (32 ∷ (aligned 32 13 (figure_text shown) ++ (10 ∷ [])))

-- the lines of so many cells, in number order
unfoldable pub page : ℕ → (ℕ → Option ℕ) → List ℕ
page zero shows = []
page (suc n) shows = page n shows ++ line n (shows n)

-- READ OFF THE BYTES ALONE
abbrev pub skip_blanks : List ℕ → List ℕ
skip_blanks [] = []
skip_blanks (b ∷ bs) = cond (b == 32) (skip_blanks bs) (b ∷ bs)

-- the number that a word of digits writes; any other word writes none
abbrev pub word_value : List ℕ → Option ℕ
word_value [] = None
word_value (b ∷ bs) = cond (all_ascii_digits (b ∷ bs)) (Some (digits_value 10 (b ∷ bs))) None

-- the number in the 13 columns of line c, which begin after four digits and a blank; none where they show D
unfoldable pub spells : List ℕ → ℕ → Option ℕ
spells bytes c = word_value (skip_blanks (take 13 (drop (19 * c + 5) bytes)))

-- WHAT FITS
-- 13 columns hold a figure below 10^13, and the letter D
abbrev pub fits : Option ℕ → Bool
fits (Some v) = nat_lt v (10 ^ 13)
fits None = true
