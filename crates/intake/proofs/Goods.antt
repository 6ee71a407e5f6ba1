-- What a walk reads can be entered.
use Rattle.std.proofs.Common.{◌≡◌, ℕ, zero, suc, ◌+◌, ◌<◌, ◌≤◌, Bool, true, false, not, ◌&&◌, leb, ltb, Some, None, Option, is_some, List, [], ◌∷◌, ◌++◌, length, get_or, set, Ok, Err, Result, sym, refl, ⊎_elim, arith, Vec, vec_items, vec_len, subst}
use Rattle.std.proofs.lemmas.Bool.{cases_Bool, true≢false, ltb-false, and_from, lt-ltb}
use Rattle.refusals.specs.declared.Refusal.{Refusal}
use Rattle.layouts.specs.Shape.{Shape, is_leaf}
use Rattle.layouts.specs.declared.memory.Contribution.{Contribution}
use Rattle.std.specs.declared.alloc.Global.{Global}
use Rattle.layouts.specs.declared.memory.Record.{Record}
use Rattle.intake.specs.Chains.{held, leaf_list}
use Rattle.intake.proofs.Entered.{held_count}
use Rattle.intake.proofs.Figures.{AtLeaves}
use Rattle.intake.specs.Deposit.{after_these, chain, contribution, head, next, unseen, walk}
use Rattle.intake.specs.Walks.{Good}

pub good_at : (s : Shape) (xs : List Contribution) → Good s xs → (i : ℕ) (d : Contribution) → i < length xs → (is_leaf s (get_or xs i d).leaf ≡ true) × ((get_or xs i d).amount ≤ 1000000000)
good_at s [] g i d h = absurd (omega arith)
good_at s (x ∷ xs) g zero d h = (g.0, g.1)
good_at s (x ∷ xs) g (suc i) d h = good_at s xs g.2 i d (omega arith)

good_leaves : (s : Shape) (xs : List Contribution) → Good s xs → AtLeaves s xs
good_leaves s [] g i h = absurd (omega arith)
good_leaves s (x ∷ xs) g zero h = g.0
good_leaves s (x ∷ xs) g (suc i) h = good_leaves s xs g.2 i (omega arith)

leaves_after : (s : Shape) (xs ys : List Contribution) → AtLeaves s xs → Good s ys → AtLeaves s (xs ++ ys)
leaves_after s [] ys at g i h = good_leaves s ys g i h
leaves_after s (x ∷ xs) ys at g zero h = at 0 (omega arith)
leaves_after s (x ∷ xs) ys at g (suc i) h = leaves_after s xs ys (λ j lt. at (suc j) (omega arith)) g i (omega arith)

-- the same of what records hold
module _ (s : Shape) where
  abbrev pub Leafy : Vec Record Global → Type 0
  Leafy v = (i : ℕ) → i < vec_len v → is_leaf s (get_or (leaf_list (held (vec_items v))) i 0) ≡ true

  pub at_leaves : (v : Vec Record Global) → Leafy v → AtLeaves s (held (vec_items v))
  at_leaves v h i lt = h i (omega (arith, held_count v))

  pub leafy_after : (v w : Vec Record Global) (ys : List Contribution) → Leafy v → Good s ys → held (vec_items w) ≡ held (vec_items v) ++ ys → Leafy w
  leafy_after v w ys h g e i lt = subst (AtLeaves s) (sym e) (leaves_after s (held (vec_items v)) ys (at_leaves v h) g) i (omega (arith, held_count w))

good_after : (s : Shape) (x : Contribution) (r : Result (List Contribution) Refusal) (xs : List Contribution) → is_leaf s x.leaf ≡ true → x.amount ≤ 1000000000
    → ((ys : List Contribution) → r ≡ Ok ys → Good s ys) → after_these (x ∷ []) r ≡ Ok xs → Good s xs
good_after s x (Ok ys) xs leaf small g h = let e : x ∷ ys ≡ xs = cc in rw (sym e) (leaf, small, g ys refl)
good_after s x (Err e) xs leaf small g h = cc

module _ (s : Shape) (bytes : List ℕ) (records c : ℕ) where
  pub chain_good : (n : ℕ) (seen : List Bool) (link : Option ℕ) (rest : List Bool → Result (List Contribution) Refusal) (xs : List Contribution)
      → (is_some link ≡ true → is_leaf s c ≡ true) → ((now : List Bool) (ys : List Contribution) → rest now ≡ Ok ys → Good s ys)
      → chain s bytes records n c seen link rest ≡ Ok xs → Good s xs
  chain_good zero seen None rest xs leaf good h = good seen xs h
  chain_good (suc n) seen None rest xs leaf good h = good seen xs h
  chain_good zero seen (Some at) rest xs leaf good h =
      ⊎_elim (λ (d : leb records at ≡ true). cc (rw d at h)) (λ (d : leb records at ≡ false). cc (rw d at h)) (cases_Bool (leb records at))
  chain_good (suc n) seen (Some at) rest xs leaf good h =
      ⊎_elim
      (λ (d : leb records at ≡ true). cc (rw d at h))
      (λ (d : leb records at ≡ false).
      ⊎_elim
      (λ (w : get_or seen at false ≡ true). cc (rw (d, w) at h))
      (λ (w : get_or seen at false ≡ false).
      let x = contribution s.cells bytes c at in
      ⊎_elim
      (λ (a : ltb 1000000000 x.amount ≡ true). cc (rw (d, w, a) at h))
      (λ (a : ltb 1000000000 x.amount ≡ false).
      let is_IsLeaf = leaf refl in
      good_after s x _ xs is_IsLeaf (ltb-false 1000000000 x.amount a)
      (λ ys is. chain_good n (set seen at true) (next s.cells bytes at) rest ys (λ _. is_IsLeaf) good is) (rw (d, w, a) at h))
      (cases_Bool (ltb 1000000000 x.amount)))
      (cases_Bool (get_or seen at false)))
      (cases_Bool (leb records at))

module _ (s : Shape) (bytes : List ℕ) (records : ℕ) where
  at_leaf : (c : ℕ) → c < s.cells → (is_some (head bytes c) && not (s.leaf c)) ≡ false → is_some (head bytes c) ≡ true → is_leaf s c ≡ true
  at_leaf c h e d =
      ⊎_elim
      (λ (l : s.leaf c ≡ true). and_from (ltb c s.cells) (s.leaf c) (lt-ltb c s.cells h) l)
      (λ (l : s.leaf c ≡ false). absurd (true≢false (rw (d, l) at e)))
      (cases_Bool (s.leaf c))

  pub walk_good : (k c : ℕ) (seen : List Bool) (xs : List Contribution) → c + k ≤ s.cells → walk s bytes records k c seen ≡ Ok xs → Good s xs
  walk_good zero c seen xs room h =
      ⊎_elim
      (λ (u : ltb 0 (unseen seen) ≡ true). cc (rw u at h))
      (λ (u : ltb 0 (unseen seen) ≡ false). let e : [] ≡ xs = cc (rw u at h) in rw (sym e) tt)
      (cases_Bool (ltb 0 (unseen seen)))
  walk_good (suc k) c seen xs room h =
      ⊎_elim
      (λ (t : (is_some (head bytes c) && not (s.leaf c)) ≡ true). cc (rw t at h))
      (λ (t : (is_some (head bytes c) && not (s.leaf c)) ≡ false).
      chain_good s bytes records c (unseen seen) seen (head bytes c) (walk s bytes records k (suc c)) xs (at_leaf c (omega arith) t)
      (λ now ys is. walk_good k (suc c) now ys (omega arith) is) (rw t at h))
      (cases_Bool (is_some (head bytes c) && not (s.leaf c)))
