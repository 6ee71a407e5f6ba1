-- A layout and its copy take in the same contributions, and these give the cells the same figures and needs.
use Rattle.std.proofs.Common.{◌≡◌, ℕ, zero, suc, ◌+◌, ◌<◌, ◌≤◌, Bool, true, false, cond, not, ◌&&◌, leb, ltb, Some, None, Option, is_some, List, [], ◌∷◌, ◌++◌, get_or, set, replicate, Err, sum, Result, refl, ap, ◌∙◌, arith}
use Rattle.std.proofs.lemmas.Bool.Decides.{nat_tests}
use Rattle.std.specs.Result.{result_and}
use Rattle.refusals.specs.declared.Refusal.{Refusal}
use Rattle.refusals.specs.declared.Refusal.TheVariants.{NotALeaf, AmountTooLarge, LinkTooLarge, RecordReached}
use Rattle.layouts.specs.Shape.{Shape, Laws, Same}
use Rattle.layouts.specs.declared.memory.Contribution.{Contribution}
use Rattle.layouts.specs.declared.memory.Row.{Row}
use Rattle.layouts.proofs.Kept.{leaf_below, leaf_is, same_is_leaf, same_laws}
use Rattle.readings.specs.Rows.{looked_at}
use Rattle.intake.specs.Contributions.{amounts_under}
use Rattle.intake.specs.Entering.{enter_answer}
use Rattle.intake.specs.Deposit.{contribution, next, head, unseen, after_these, chain, walk, counted, record_count, deposited}
use Rattle.intake.specs.Settling.{settled_rows}
use Rattle.intake.proofs.Figures.{AtLeaves, figures_are, needs_are}
use Rattle.office.specs.Office.{figures_by, entered_after}
use Rattle.office.proofs.Alike.{Alike}

module _ (s t : Shape) (same : Same s t) where
  -- ENTERING
  enter_same : (xs : List Contribution) (x : Contribution) → enter_answer t xs x ≡ enter_answer s xs x
  enter_same xs x = grind (arith, nat_tests, same.cells, same.leaf x.leaf)

  pub entered_same : (held xs : List Contribution) → entered_after t held xs ≡ entered_after s held xs
  entered_same held [] = refl
  entered_same held (x ∷ xs) = λ i. result_and (enter_same held x i) (entered_same (held ++ x ∷ []) xs i)

  -- A DEPOSIT
  module _ (bytes : List ℕ) (q : ℕ) where
    chain_same : (n c : ℕ) (seen : List Bool) (link : Option ℕ) (rest rest' : List Bool → Result (List Contribution) Refusal) → ((seen : List Bool) → rest' seen ≡ rest seen)
        → chain t bytes q n c seen link rest' ≡ chain s bytes q n c seen link rest
    chain_same zero c seen None rest rest' e = e seen
    chain_same (suc n) c seen None rest rest' e = e seen
    chain_same zero c seen (Some at) rest rest' e = refl
    chain_same (suc n) c seen (Some at) rest rest' e =
        let after : chain t bytes q n c (set seen at true) (next t.cells bytes at) rest' ≡ chain s bytes q n c (set seen at true) (next s.cells bytes at) rest =
        chain_same n c (set seen at true) (next t.cells bytes at) rest rest' e
        ∙ ap (λ m. chain s bytes q n c (set seen at true) (next m bytes at) rest) same.cells in
        λ i. cond (leb q at) (Err (LinkTooLarge c))
        (cond (get_or seen at false) (Err (RecordReached c))
        (cond (ltb 1000000000 (contribution (same.cells i) bytes c at).amount) (Err (AmountTooLarge c))
        (after_these (contribution (same.cells i) bytes c at ∷ []) (after i))))

    walk_same : (k c : ℕ) (seen : List Bool) → c + k ≤ s.cells → walk t bytes q k c seen ≡ walk s bytes q k c seen
    walk_same zero c seen l = refl
    walk_same (suc k) c seen l =
        let chains = chain_same (unseen seen) c seen (head bytes c) (walk s bytes q k (suc c)) (walk t bytes q k (suc c)) (λ seen. walk_same k (suc c) seen (omega arith)) in
        λ i. cond (is_some (head bytes c) && not (same.leaf c (omega arith) i)) (Err (NotALeaf c)) (chains i)

  pub deposited_same : (held : ℕ) (bytes : List ℕ) → deposited t held bytes ≡ deposited s held bytes
  deposited_same held bytes =
      let walks : (q : ℕ) → walk t bytes q t.cells 0 (replicate q false) ≡ walk s bytes q s.cells 0 (replicate q false) =
      λ q. ap (λ m. walk t bytes q m 0 (replicate q false)) same.cells ∙ walk_same bytes q s.cells 0 (replicate q false) (omega arith) in
      λ i. result_and (counted (same.cells i) held bytes) (walks (record_count bytes) i)

  -- FIGURES AND NEEDS
  amounts_same : (xs : List Contribution) → AtLeaves t xs → (c : ℕ) → c < s.cells → amounts_under t xs c ≡ amounts_under s xs c
  amounts_same [] at c l = refl
  amounts_same (x ∷ xs) at c l =
      let leaf = same_is_leaf s t same x.leaf (at 0 (omega arith)) in
      let counts = same.counts c x.leaf l (leaf_below s x.leaf leaf) (leaf_is s x.leaf leaf) in
      let more = amounts_same xs (λ i h. at (suc i) (omega arith)) c l in
      λ i. cond (counts i) (x.amount ∷ more i) (more i)

  pub alike : Laws s → (meaning : List ℕ → ℕ) → ((ys : List ℕ) → meaning ys ≤ sum ys) → (xs : List Contribution) → AtLeaves t xs
      → (rows : List Row) → rows ≡ settled_rows t meaning xs → Alike (figures_by s meaning xs) (looked_at t rows)
  alike laws meaning bound xs at rows e = record {
    shape = same;
    figure = λ c l. figures_are t (same_laws s t same laws) meaning bound xs at rows e c (omega (arith, same.cells)) ∙ ap sum (amounts_same xs at c l);
    need = λ c l. needs_are t (same_laws s t same laws) meaning bound xs at rows e c (omega (arith, same.cells)) ∙ ap meaning (amounts_same xs at c l);
  }
