-- Contributions in another order have the same amounts under each cell, in another order.
use Rattle.std.proofs.Common.{◌≡◌, ℕ, zero, suc, ◌<◌, true, false, List, [], ◌∷◌, length, get_or, set, refl, ⊎_elim, le_of_suc-le-suc, not-suc-le-zero, arith}
use Rattle.std.specs.List.Sorted.{IsPermutation}
use Rattle.std.specs.List.{swap}
use Rattle.std.proofs.lemmas.List.Sorted.{IsPermutation-refl, IsPermutation-cons, IsPermutation-swap, IsPermutation-trans, IsPermutation-keeps}
use Rattle.std.proofs.lemmas.Bool.{cases_Bool}
use Rattle.layouts.specs.Shape.{Shape}
use Rattle.layouts.specs.declared.memory.Contribution.{Contribution}
use Rattle.intake.specs.Contributions.{amounts_under}

module _ (s : Shape) (c : ℕ) where
  under : List Contribution → List ℕ
  under xs = amounts_under s xs c

  under_cons : (x : Contribution) (xs ys : List Contribution) → IsPermutation (under xs) (under ys) → IsPermutation (under (x ∷ xs)) (under (x ∷ ys))
  unfolding under
  under_cons x xs ys h =
      ⊎_elim
      (λ (e : s.counts c x.leaf ≡ true). rw e (IsPermutation-cons x.amount (amounts_under s xs c) (amounts_under s ys c) h))
      (λ (e : s.counts c x.leaf ≡ false). rw e h)
      (cases_Bool (s.counts c x.leaf))

  -- the first two change places
  under_swap : (x y : Contribution) (xs : List Contribution) → IsPermutation (under (x ∷ y ∷ xs)) (under (y ∷ x ∷ xs))
  unfolding under
  under_swap x y xs =
      let rest = amounts_under s xs c in
      ⊎_elim
      (λ (e : s.counts c x.leaf ≡ true).
      ⊎_elim
      (λ (f : s.counts c y.leaf ≡ true).
      rw (e, f) (IsPermutation-swap (x.amount ∷ y.amount ∷ rest) (y.amount ∷ x.amount ∷ rest) 0 1 (omega arith) (omega arith) refl))
      (λ (f : s.counts c y.leaf ≡ false). rw (e, f) (IsPermutation-refl (x.amount ∷ rest)))
      (cases_Bool (s.counts c y.leaf)))
      (λ (e : s.counts c x.leaf ≡ false). rw e (IsPermutation-refl (under (y ∷ xs))))
      (cases_Bool (s.counts c x.leaf))

  -- x changes places with the contribution at m
  under_set : (x : Contribution) (ts : List Contribution) (m : ℕ) (d : Contribution) → m < length ts
      → IsPermutation (under (x ∷ ts)) (under (get_or ts m d ∷ set ts m x))
  under_set x [] m d h = absurd (not-suc-le-zero h)
  under_set x (t ∷ ts) zero d h = under_swap x t ts
  under_set x (t ∷ ts) (suc m) d h =
      let y = get_or ts m d in
      let rest = set ts m x in
      IsPermutation-trans (under (x ∷ t ∷ ts)) (under (t ∷ x ∷ ts)) (under (y ∷ t ∷ rest)) (under_swap x t ts)
      (IsPermutation-trans (under (t ∷ x ∷ ts)) (under (t ∷ y ∷ rest)) (under (y ∷ t ∷ rest))
      (under_cons t (x ∷ ts) (y ∷ rest) (under_set x ts m d (le_of_suc-le-suc h)))
      (under_swap t y rest))

  -- the contributions at i and j, at any default, change places
  under_both : (xs : List Contribution) (i j : ℕ) (d : Contribution) → i < length xs → j < length xs
      → IsPermutation (under xs) (under (set (set xs i (get_or xs j d)) j (get_or xs i d)))
  under_both [] i j d h k = absurd (not-suc-le-zero h)
  under_both (x ∷ xs) zero zero d h k = IsPermutation-refl (under (x ∷ xs))
  under_both (x ∷ xs) zero (suc j) d h k = under_set x xs j d (le_of_suc-le-suc k)
  under_both (x ∷ xs) (suc i) zero d h k = under_set x xs i d (le_of_suc-le-suc h)
  under_both (x ∷ xs) (suc i) (suc j) d h k =
      under_cons x xs (set (set xs i (get_or xs j d)) j (get_or xs i d)) (under_both xs i j d (le_of_suc-le-suc h) (le_of_suc-le-suc k))

  under_exchanged : (xs : List Contribution) (i j : ℕ) → i < length xs → j < length xs → IsPermutation (under xs) (under (swap xs i j))
  under_exchanged [] i j h k = absurd (not-suc-le-zero h)
  under_exchanged (x ∷ xs) i j h k = under_both (x ∷ xs) i j x h k

  pub amounts_under_shuffled : (xs ys : List Contribution) → IsPermutation xs ys → IsPermutation (amounts_under s xs c) (amounts_under s ys c)
  unfolding under
  amounts_under_shuffled xs ys h =
      IsPermutation-keeps xs (λ l. IsPermutation (under xs) (under l)) (IsPermutation-refl (under xs))
      (λ l i j hi hj p. IsPermutation-trans (under xs) (under l) (under (swap l i j)) p (under_exchanged l i j hi hj)) ys h
