-- What a layout means, and the laws that every layout shows.
use Rattle.std.specs.Prelude.{◌≡◌, ℕ, ◌<◌, Bool, true, false, not, ◌&&◌, ◌==◌, ◌≢◌, nat_lt}
use Rattle.sums.specs.Sums.{count_below}

-- A layout's answers. Each cell leaves one relation and enters another; `counts c l` says whether the leaf l counts under the cell c.
pub record Shape : Type 0 where
  pub cells : ℕ
  pub relations : ℕ
  pub leaf : ℕ → Bool
  pub leaves : ℕ → ℕ
  pub enters : ℕ → ℕ
  pub counts : ℕ → ℕ → Bool

abbrev pub is_leaf : Shape → ℕ → Bool
is_leaf s l = nat_lt l s.cells && s.leaf l

-- k and l are leaves, and not the same one
abbrev pub two_leaves : Shape → ℕ → ℕ → Bool
two_leaves s k l = (is_leaf s k && is_leaf s l) && not (k == l)

-- how many of the cells that the leaf l counts under leave the relation r, and how many enter it
abbrev pub leaving : Shape → ℕ → ℕ → ℕ
leaving s l r = count_below s.cells (λ c. s.counts c l && s.leaves c == r)

abbrev pub entering : Shape → ℕ → ℕ → ℕ
entering s l r = count_below s.cells (λ c. s.counts c l && s.enters c == r)

-- The two relations of a cell exist and differ. A leaf counts under itself and under no other leaf. Among the cells that a leaf counts under, as many enter each relation as leave it.
pub record Laws (s : Shape) : Type 0 where
  pub left : (c : ℕ) → c < s.cells → s.leaves c < s.relations
  pub entered : (c : ℕ) → c < s.cells → s.enters c < s.relations
  pub apart : (c : ℕ) → c < s.cells → s.leaves c ≢ s.enters c
  pub itself : (l : ℕ) → is_leaf s l ≡ true → s.counts l l ≡ true
  pub alone : (k l : ℕ) → two_leaves s k l ≡ true → s.counts k l ≡ false
  pub balanced : (l r : ℕ) → is_leaf s l ≡ true → leaving s l r ≡ entering s l r

-- Two layouts give the same answers.
pub record Same (s t : Shape) : Type 0 where
  pub cells : t.cells ≡ s.cells
  pub relations : t.relations ≡ s.relations
  pub leaf : (c : ℕ) → c < s.cells → t.leaf c ≡ s.leaf c
  pub leaves : (c : ℕ) → c < s.cells → t.leaves c ≡ s.leaves c
  pub enters : (c : ℕ) → c < s.cells → t.enters c ≡ s.enters c
  pub counts : (c l : ℕ) → c < s.cells → l < s.cells → s.leaf l ≡ true → t.counts c l ≡ s.counts c l
