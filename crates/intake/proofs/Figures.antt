-- The figures of contributions balance, no need is above its figure, and under a sensitive cell counts some leaf.
use Rattle.std.proofs.Common.{◌≡◌, ℕ, suc, ◌+◌, ◌*◌, ◌<◌, ◌≤◌, Bool, true, false, cond, ◌&&◌, eqb, ltb, List, [], ◌∷◌, length, get_or, sum, sym, refl, ap, ◌∙◌, ⊎_elim, arith}
use Rattle.std.proofs.lemmas.List.Sums.{sum_by-cons}
use Rattle.std.proofs.lemmas.Bool.{cases_Bool, and_parts, and_from, ltb-true}
use Rattle.sums.specs.Sums.{sum_below, count_below}
use Rattle.sums.proofs.SumBelow.{sum_same, sum_add, sum_zero, sum_weighed}
use Rattle.layouts.specs.Shape.{Shape, Laws, is_leaf, leaving, entering}
use Rattle.layouts.specs.declared.memory.Contribution.{Contribution}
use Rattle.layouts.specs.Blank.{blank}
use Rattle.layouts.specs.declared.memory.Row.{Row}
use Rattle.layouts.specs.declared.memory.Mark.TheVariants.{Open}
use Rattle.layouts.proofs.Values.{length_values, get_or_values}
use Rattle.std.proofs.lemmas.List.{get_or-map}
use Rattle.readings.specs.Rows.{figures, needs}
use Rattle.readings.specs.Balance.{entering_sum, leaving_sum, Balanced}
use Rattle.readings.specs.Exposure.{any_below}
use Rattle.readings.proofs.Sets.{some_any_below}
use Rattle.intake.specs.Contributions.{amounts_under, figure_of, need_of}
use Rattle.intake.specs.Chains.{leaf_list, amount_list}
use Rattle.intake.specs.Marks.{mark_at, first_mark}
use Rattle.intake.specs.Settling.{is_under, settled_row, settled_rows}

-- every contribution is entered at a leaf
abbrev pub AtLeaves : Shape → List Contribution → Type 0
AtLeaves s xs = (i : ℕ) → i < length xs → is_leaf s (get_or (leaf_list xs) i 0) ≡ true

module _ (s : Shape) where
  figure_more : (x : Contribution) (xs : List Contribution) (c : ℕ) → figure_of s (x ∷ xs) c ≡ cond (s.counts c x.leaf) x.amount 0 + figure_of s xs c
  figure_more x xs c =
      ⊎_elim
      (λ (e : s.counts c x.leaf ≡ true). rw (e, sum_by-cons (λ n. n) x.amount (amounts_under s xs c)))
      (λ (e : s.counts c x.leaf ≡ false). rw e (omega arith))
      (cases_Bool (s.counts c x.leaf))

  figure_is : (x : Contribution) (xs : List Contribution) (c : ℕ) (b : Bool) → s.counts c x.leaf ≡ b → figure_of s (x ∷ xs) c ≡ cond b x.amount 0 + figure_of s xs c
  figure_is x xs c b e = figure_more x xs c ∙ ap (λ b. cond b x.amount 0 + figure_of s xs c) e

  -- what one contribution brings to a relation, where `of` gives the relation of a cell
  module _ (of : ℕ → ℕ) (r : ℕ) where
    split : (b : Bool) (a n : ℕ) → cond b (a + n) 0 ≡ cond b a 0 + cond b n 0
    split true a n = refl
    split false a n = refl

    brings : (x : Contribution) (xs : List Contribution)
        → sum_below s.cells (λ c. cond (eqb (of c) r) (figure_of s (x ∷ xs) c) 0)
        ≡ x.amount * count_below s.cells (λ c. s.counts c x.leaf && eqb (of c) r) + sum_below s.cells (λ c. cond (eqb (of c) r) (figure_of s xs c) 0)
    brings x xs =
        sum_same s.cells _ _ (λ c h. ap (λ f. cond (eqb (of c) r) f 0) (figure_more x xs c) ∙ split (eqb (of c) r) (cond (s.counts c x.leaf) x.amount 0) (figure_of s xs c))
        ∙ sum_add s.cells (λ c. cond (eqb (of c) r) (cond (s.counts c x.leaf) x.amount 0) 0) (λ c. cond (eqb (of c) r) (figure_of s xs c) 0)
        ∙ ap (λ n. n + sum_below s.cells (λ c. cond (eqb (of c) r) (figure_of s xs c) 0)) (sum_weighed s.cells x.amount (λ c. s.counts c x.leaf) (λ c. eqb (of c) r))

    brings_none : sum_below s.cells (λ c. cond (eqb (of c) r) (figure_of s [] c) 0) ≡ 0
    brings_none = sum_same s.cells _ (λ _. 0) (λ c h. either (eqb (of c) r)) ∙ sum_zero s.cells
      where
        either : (b : Bool) → ◌≡◌ {A = ℕ} (cond b 0 0) 0
        either true = refl
        either false = refl

  pub figures_balance : Laws s → (xs : List Contribution) → AtLeaves s xs → Balanced s (figure_of s xs)
  figures_balance laws [] at r h = brings_none s.enters r ∙ sym (brings_none s.leaves r)
  figures_balance laws (x ∷ xs) at r h =
      let rest = figures_balance laws xs (λ i lt. at (suc i) (omega arith)) r h in
      let level : leaving s x.leaf r ≡ entering s x.leaf r = laws.balanced x.leaf r (at 0 (omega arith)) in
      brings s.enters r x xs
      ∙ ap (λ n. x.amount * n + entering_sum s (figure_of s xs) r) (sym level)
      ∙ ap (λ n. x.amount * leaving s x.leaf r + n) rest
      ∙ sym (brings s.leaves r x xs)

  -- a figure above 0 has a leaf under it
  pub leaf_under : (xs : List Contribution) (c : ℕ) → AtLeaves s xs → 0 < figure_of s xs c → any_below s.cells (is_under s c) ≡ true
  leaf_under [] c at h = absurd (omega arith)
  leaf_under (x ∷ xs) c at h =
      ⊎_elim
      (λ (e : s.counts c x.leaf ≡ true).
      let leaf : is_leaf s x.leaf ≡ true = at 0 (omega arith) in
      let inside = ltb-true x.leaf s.cells (and_parts (ltb x.leaf s.cells) (s.leaf x.leaf) leaf).0 in
      some_any_below s.cells (is_under s c) x.leaf inside (and_from (is_leaf s x.leaf) (s.counts c x.leaf) leaf e))
      (λ (e : s.counts c x.leaf ≡ false).
      let more = figure_is x xs c false e in
      leaf_under xs c (λ i lt. at (suc i) (omega arith)) (omega arith))
      (cases_Bool (s.counts c x.leaf))

  pub figure_small : (xs : List Contribution) (c : ℕ) → ((i : ℕ) → i < length xs → get_or (amount_list xs) i 0 ≤ 1000000000) → figure_of s xs c ≤ length xs * 1000000000
  figure_small [] c h = omega arith
  figure_small (x ∷ xs) c h =
      let a : x.amount ≤ 1000000000 = h 0 (omega arith) in
      let rest = figure_small xs c (λ i lt. h (suc i) (omega arith)) in
      ⊎_elim
      (λ (e : s.counts c x.leaf ≡ true). omega (arith, figure_is x xs c true e))
      (λ (e : s.counts c x.leaf ≡ false). omega (arith, figure_is x xs c false e))
      (cases_Bool (s.counts c x.leaf))

-- the rows that are settled
module _ (s : Shape) (laws : Laws s) (meaning : List ℕ → ℕ) (bound : (ys : List ℕ) → meaning ys ≤ sum ys) (xs : List Contribution) (at : AtLeaves s xs)
    (rows : List Row) (e : rows ≡ settled_rows s meaning xs) where
  row_at : (c : ℕ) (d : Row) → c < s.cells → get_or rows c d ≡ settled_row s meaning xs c
  row_at c d h = ap (λ l. get_or l c d) e ∙ get_or_values s.cells (settled_row s meaning xs) c d h

  pub rows_long : length rows ≡ s.cells
  rows_long = ap length e ∙ length_values s.cells (settled_row s meaning xs)

  pub figures_are : (c : ℕ) → c < s.cells → figures rows c ≡ figure_of s xs c
  figures_are c h = get_or-map (λ r. r.figure) rows c blank 0 (omega (arith, rows_long)) ∙ ap (λ r. r.figure) (row_at c blank h)

  pub needs_are : (c : ℕ) → c < s.cells → needs rows c ≡ need_of s meaning xs c
  needs_are c h = get_or-map (λ r. r.need) rows c blank 0 (omega (arith, rows_long)) ∙ ap (λ r. r.need) (row_at c blank h)

  pub marks_are : (c : ℕ) → c < s.cells → mark_at rows c ≡ first_mark (need_of s meaning xs c)
  marks_are c h = get_or-map (λ r. r.mark) rows c blank Open (omega (arith, rows_long)) ∙ ap (λ r. r.mark) (row_at c blank h)

  pub rows_balance : (r : ℕ) → r < s.relations → entering_sum s (figures rows) r ≡ leaving_sum s (figures rows) r
  rows_balance r h =
      sum_same s.cells _ _ (λ c lt. ap (λ f. cond (eqb (s.enters c) r) f 0) (figures_are c lt))
      ∙ figures_balance s laws xs at r h
      ∙ sum_same s.cells _ _ (λ c lt. ap (λ f. cond (eqb (s.leaves c) r) f 0) (sym (figures_are c lt)))

  pub need_within : (c : ℕ) → c < s.cells → needs rows c ≤ figures rows c
  need_within c h = omega (arith, figures_are c h, needs_are c h, bound (amounts_under s xs c))

  pub rows_small : ((i : ℕ) → i < length xs → get_or (amount_list xs) i 0 ≤ 1000000000) → length xs ≤ 2048 → (c : ℕ) → c < s.cells → figures rows c ≤ 2048000000000
  rows_small small few c h = omega (arith, figures_are c h, figure_small s xs c small)

  pub rows_begun : (c : ℕ) → c < s.cells → mark_at rows c ≡ first_mark (needs rows c)
  rows_begun c h =
      let m : mark_at rows c ≡ first_mark (needs rows c) = marks_are c h ∙ ap first_mark (sym (needs_are c h)) in
      m

  pub rows_grounded : (c : ℕ) → c < s.cells → ltb 0 (needs rows c) ≡ true → any_below s.cells (is_under s c) ≡ true
  rows_grounded c h t = leaf_under s xs c at (omega (arith, ltb-true 0 (needs rows c) t, need_within c h, figures_are c h))
