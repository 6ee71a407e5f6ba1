-- The chains of the leaves that count under a cell hold the amounts entered under it, in another order.
use Rattle.std.proofs.Common.{◌≡◌, ℕ, zero, suc, ◌+◌, ◌<◌, ◌≤◌, Bool, true, false, cond, List, [], ◌∷◌, ◌++◌, length, get_or, take, refl, ap, ◌∙◌, subst, ⊎_elim, append-nil, arith, take_all, take-suc}
use Rattle.std.specs.List.Sorted.{IsPermutation}
use Rattle.std.proofs.lemmas.List.{get_or-map}
use Rattle.std.proofs.lemmas.Bool.{cases_eq, cases_Bool, eq-eqb, ne_eqb}
use Rattle.std.proofs.lemmas.List.Sorted.{IsPermutation-refl, IsPermutation-sym, IsPermutation-trans, IsPermutation-middle, IsPermutation-append_right, IsPermutation-push_more}
use Rattle.layouts.specs.Shape.{Shape}
use Rattle.layouts.specs.declared.memory.Contribution.{Contribution}
use Rattle.intake.specs.Contributions.{amounts_under}
use Rattle.intake.specs.Chains.{leaf_list, amount_list, chain_amounts, chains_from}

module _ (test : ℕ → Bool) (leaves amounts : List ℕ) (n : ℕ) where
  -- the record n is of another leaf
  chain_other : (l : ℕ) → (get_or leaves n 0 ≡ l → ⊥) → chain_amounts l leaves amounts (suc n) ≡ chain_amounts l leaves amounts n
  chain_other l d = rw (ne_eqb (get_or leaves n 0) l d)

  chains_other : (m k : ℕ) → ((l : ℕ) → m ≤ l → l < m + k → get_or leaves n 0 ≡ l → test l ≡ false) → chains_from test leaves amounts (suc n) m k ≡ chains_from test leaves amounts n m k
  chains_other m zero h = refl
  chains_other m (suc k) h =
      let rest = chains_other (suc m) k (λ l lo hi e. h l (omega arith) (omega arith) e) in
      ⊎_elim
      (λ (e : get_or leaves n 0 ≡ m). let t : test m ≡ false = h m (omega arith) (omega arith) e in rw (t, rest))
      (λ (d : get_or leaves n 0 ≡ m → ⊥). rw (chain_other m d, rest))
      (cases_eq (get_or leaves n 0) m)

  -- the record n is of a leaf that passes the test: its amount is one more among the chains
  chains_insert : (m k : ℕ) → m ≤ get_or leaves n 0 → get_or leaves n 0 < m + k → test (get_or leaves n 0) ≡ true
      → IsPermutation (get_or amounts n 0 ∷ chains_from test leaves amounts n m k) (chains_from test leaves amounts (suc n) m k)
  chains_insert m zero lo hi t = absurd (omega arith)
  chains_insert m (suc k) lo hi t =
      ⊎_elim
      (λ (e : get_or leaves n 0 ≡ m).
      let yes : test m ≡ true = subst (λ l. test l ≡ true) e t in
      let rest = chains_other (suc m) k (λ l low high same. absurd (omega arith)) in
      rw (yes, rest, eq-eqb (get_or leaves n 0) m e) (IsPermutation-refl _))
      (λ (d : get_or leaves n 0 ≡ m → ⊥).
      let a = get_or amounts n 0 in
      let front = cond (test m) (chain_amounts m leaves amounts n) [] in
      let old = chains_from test leaves amounts n (suc m) k in
      let new = chains_from test leaves amounts (suc n) (suc m) k in
      let rest = chains_insert (suc m) k (omega arith) (omega arith) t in
      rw (chain_other m d) (IsPermutation-trans (a ∷ (front ++ old)) (front ++ a ∷ old) (front ++ new) (IsPermutation-sym (front ++ a ∷ old) (a ∷ (front ++ old)) (IsPermutation-middle front a old)) (IsPermutation-append_right front (a ∷ old) new rest)))
      (cases_eq (get_or leaves n 0) m)

none_yet : Contribution
none_yet = record { leaf = 0; company = 0; amount = 0 }

module _ (s : Shape) (xs : List Contribution) (c : ℕ) where
  amounts_under_++ : (ys zs : List Contribution) → amounts_under s (ys ++ zs) c ≡ amounts_under s ys c ++ amounts_under s zs c
  amounts_under_++ [] zs = refl
  amounts_under_++ (y ∷ ys) zs =
      ⊎_elim
      (λ (e : s.counts c y.leaf ≡ true). rw (e, amounts_under_++ ys zs))
      (λ (e : s.counts c y.leaf ≡ false). rw (e, amounts_under_++ ys zs))
      (cases_Bool (s.counts c y.leaf))

  chains_none : (m k : ℕ) → chains_from (s.counts c) (leaf_list xs) (amount_list xs) 0 m k ≡ []
  chains_none m zero = refl
  chains_none m (suc k) =
      ⊎_elim
      (λ (e : s.counts c m ≡ true). rw (e, chains_none (suc m) k))
      (λ (e : s.counts c m ≡ false). rw (e, chains_none (suc m) k))
      (cases_Bool (s.counts c m))

  -- the first n contributions, and then one more
  under_chains : (cells n : ℕ) → n ≤ length xs → ((i : ℕ) → i < length xs → get_or (leaf_list xs) i 0 < cells)
      → IsPermutation (amounts_under s (take n xs) c) (chains_from (s.counts c) (leaf_list xs) (amount_list xs) n 0 cells)
  under_chains cells zero h w = rw (chains_none 0 cells) (IsPermutation-refl [])
  under_chains cells (suc n) h w =
      let before = under_chains cells n (omega arith) w in
      let within : get_or (leaf_list xs) n 0 < cells = w n h in
      let x : Contribution = get_or xs n none_yet in
      let leaf_is : get_or (leaf_list xs) n 0 ≡ x.leaf = get_or-map (λ x. x.leaf) xs n none_yet 0 h in
      let amount_is : get_or (amount_list xs) n 0 ≡ x.amount = get_or-map (λ x. x.amount) xs n none_yet 0 h in
      let first = chains_from (s.counts c) (leaf_list xs) (amount_list xs) n 0 cells in
      let last = chains_from (s.counts c) (leaf_list xs) (amount_list xs) (suc n) 0 cells in
      let old = amounts_under s (take n xs) c in
      let step : amounts_under s (take (suc n) xs) c ≡ old ++ cond (s.counts c x.leaf) (x.amount ∷ []) [] =
      ap (λ t. amounts_under s t c) (take-suc xs n none_yet h) ∙ amounts_under_++ (take n xs) (x ∷ []) in
      ⊎_elim
      (λ (e : s.counts c x.leaf ≡ true).
      let yes : s.counts c (get_or (leaf_list xs) n 0) ≡ true = ap (s.counts c) leaf_is ∙ e in
      let more = chains_insert (s.counts c) (leaf_list xs) (amount_list xs) n 0 cells (omega arith) (omega arith) yes in
      rw (step, e) (IsPermutation-push_more old first last x.amount before (rw (← amount_is) more)))
      (λ (e : s.counts c x.leaf ≡ false).
      let no : s.counts c (get_or (leaf_list xs) n 0) ≡ false = ap (s.counts c) leaf_is ∙ e in
      let same : last ≡ first = chains_other (s.counts c) (leaf_list xs) (amount_list xs) n 0 cells (λ l low high is. subst (λ l. s.counts c l ≡ false) is no) in
      rw (step, e, append-nil old, same) before)
      (cases_Bool (s.counts c x.leaf))

  -- all of them
  pub under_all : (cells : ℕ) → ((i : ℕ) → i < length xs → get_or (leaf_list xs) i 0 < cells)
      → IsPermutation (amounts_under s xs c) (chains_from (s.counts c) (leaf_list xs) (amount_list xs) (length xs) 0 cells)
  under_all cells w =
      let all : take (length xs) xs ≡ xs = take_all (length xs) xs (omega arith) in
      rw all at (under_chains cells (length xs) (omega arith) w)
