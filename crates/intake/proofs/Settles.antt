-- The chains of the leaves that count under a cell give its figure and its need.
use Rattle.std.proofs.Common.{◌≡◌, ℕ, suc, ◌+◌, ◌-◌, ◌<◌, ◌≤◌, Bool, true, false, cond, Option, List, [], ◌∷◌, ◌++◌, length, sum, sym, ap, ◌∙◌, subst, ⊎_elim, append_assoc, append-nil, add-one, arith, length-append}
use Rattle.std.specs.List.Sorted.{IsPermutation}
use Rattle.std.proofs.lemmas.List.{length-map}
use Rattle.std.proofs.lemmas.List.Sorted.{length_permutation, sum_by-IsPermutation}
use Rattle.std.proofs.lemmas.Bool.{cases_Bool}
use Rattle.layouts.specs.Shape.{Shape}
use Rattle.layouts.specs.declared.memory.Contribution.{Contribution}
use Rattle.layouts.specs.declared.memory.Record.{Record}
use Rattle.layouts.specs.declared.memory.Mark.{Mark}
use Rattle.intake.specs.Contributions.{amounts_under, figure_of, need_of}
use Rattle.intake.specs.Chains.{Chained, held, leaf_list, amount_list, chain_amounts, chains_from}
use Rattle.intake.specs.Marks.{first_mark}
use Rattle.intake.specs.Settling.{settled_row}
use Rattle.intake.proofs.Shuffles.{under_all}

-- the chain of the leaf m, and then those of the leaves after it
pub chains_more : (test : ℕ → Bool) (leaves amounts : List ℕ) (n m k : ℕ) → m < k
    → chains_from test leaves amounts n m (k - m) ≡ cond (test m) (chain_amounts m leaves amounts n) [] ++ chains_from test leaves amounts n (m + 1) (k - (m + 1))
chains_more test leaves amounts n m k h =
    let more : k - m ≡ suc (k - (m + 1)) = omega arith in
    rw (more, add-one)

pub chains_all : (test : ℕ → Bool) (leaves amounts : List ℕ) (n m k : ℕ) → k ≤ m → chains_from test leaves amounts n m (k - m) ≡ []
chains_all test leaves amounts n m k h = let none : k - m ≡ 0 = omega arith in rw none

pub fewer_under : (s : Shape) (xs : List Contribution) (c : ℕ) → length (amounts_under s xs c) ≤ length xs
fewer_under s [] c = omega arith
fewer_under s (x ∷ xs) c =
    ⊎_elim
    (λ (e : s.counts c x.leaf ≡ true). rw e (omega (arith, fewer_under s xs c)))
    (λ (e : s.counts c x.leaf ≡ false). rw e (omega (arith, fewer_under s xs c)))
    (cases_Bool (s.counts c x.leaf))

module _ (s : Shape) (rs : List Record) (heads : List (Option ℕ)) (k : Chained rs heads) (c : ℕ) where
  abbrev pub whole : List ℕ
  whole = chains_from (s.counts c) (leaf_list (held rs)) (amount_list (held rs)) (length rs) 0 (length heads)

  long : length (held rs) ≡ length rs
  long = length-map rs (λ r. r.contribution)

  pub whole_shuffled : IsPermutation (amounts_under s (held rs) c) whole
  whole_shuffled =
      subst (λ n. IsPermutation (amounts_under s (held rs) c) (chains_from (s.counts c) (leaf_list (held rs)) (amount_list (held rs)) n 0 (length heads))) long
      (under_all s (held rs) c (length heads) (λ i h. k.leafy i (omega (arith, long))))

  pub whole_short : length whole ≤ 2048
  whole_short = omega (arith, length_permutation (amounts_under s (held rs) c) whole whole_shuffled, fewer_under s (held rs) c, long, k.few)

  pub whole_sum : sum whole ≡ figure_of s (held rs) c
  whole_sum = sum_by-IsPermutation (λ x. x) (amounts_under s (held rs) c) whole whole_shuffled

-- what was told, one chain more
pub told_chain : (all told chain rest after : List ℕ) → all ≡ told ++ rest → rest ≡ chain ++ after → all ≡ (told ++ chain) ++ after
told_chain all told chain rest after e d = e ∙ ap (λ t. told ++ t) d ∙ sym (append_assoc told chain after)

pub told_room : (all told chain after : List ℕ) → length all ≤ 2048 → all ≡ (told ++ chain) ++ after → length told + length chain ≤ 2048
told_room all told chain after h e = omega (arith, simp length-append at (ap length e))

pub told_whole : (all told rest : List ℕ) → all ≡ told ++ rest → rest ≡ [] → told ≡ all
told_whole all told rest e d = sym (e ∙ ap (λ t. told ++ t) d ∙ append-nil told)

-- the row, by what was computed
module _ (s : Shape) (meaning : List ℕ → ℕ) (xs : List Contribution) (c figure need : ℕ) (f : figure ≡ figure_of s xs c) (n : need ≡ need_of s meaning xs c) where
  pub row_made : (mark : Mark) → mark ≡ first_mark need → record { figure = figure; need = need; mark = mark } ≡ settled_row s meaning xs c
  row_made mark m =
      let is : mark ≡ first_mark (need_of s meaning xs c) = m ∙ ap first_mark n in
      λ i. record { figure = f i; need = n i; mark = is i }

-- one row more is settled, by a rule that means the same
pub row_meaning : (s : Shape) (m n : List ℕ → ℕ) (xs : List Contribution) (c : ℕ) → ((ys : List ℕ) → m ys ≡ n ys) → settled_row s m xs c ≡ settled_row s n xs c
row_meaning s m n xs c e =
    let d = e (amounts_under s xs c) in
    λ i. record { figure = figure_of s xs c; need = d i; mark = first_mark (d i) }
