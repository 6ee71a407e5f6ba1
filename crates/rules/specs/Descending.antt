-- `descending` does not depend on the order, and keeps the sum.
use Rattle.std.specs.Prelude.{◌≡◌, ℕ, zero, suc, ◌+◌, ◌<◌, ◌≤◌, min, max, List, [], ◌∷◌, length, take, sum, slice_index, slice_index_or, slice_set, ◌⊎◌, refl}
use Rattle.std.proofs.Common.{ap, ◌∙◌, inl, inr, ⊎_elim, arith, le_of_suc-le-suc, not-suc-le-zero}
use Rattle.std.specs.List.Sorted.{IsPermutation}
use Rattle.std.specs.List.{swap}
use Rattle.std.proofs.lemmas.List.Sums.{sum_by-cons, sum_by-take-le}
use Rattle.std.proofs.lemmas.List.Sorted.{IsPermutation-keeps}
use Rattle.std.proofs.lemmas.Bool.{cases_lt}
use Rattle.rules.specs.Largest.{placed, descending, n_largest}

-- of x, y and z the largest goes first; the other two are the same two either way
others : (x y z : ℕ) → ((min x (max y z) ≡ min y (max x z)) × (min y z ≡ min x z)) ⊎ ((min x (max y z) ≡ min x z) × (min y z ≡ min y (max x z)))
others x y z =
    ⊎_elim (λ (h : x < z). ⊎_elim (λ (k : y < z). inr (omega arith, omega arith)) (λ (k : z ≤ y). inr (omega arith, omega arith)) (cases_lt y z))
    (λ (h : z ≤ x). ⊎_elim (λ (k : y < z). inr (omega arith, omega arith)) (λ (k : z ≤ y). inl (omega arith, omega arith)) (cases_lt y z)) (cases_lt x z)

pub placed_comm : (x y : ℕ) (zs : List ℕ) → placed x (placed y zs) ≡ placed y (placed x zs)
placed_comm x y [] = grind arith
placed_comm x y (z ∷ zs) = let rest = placed_comm (min x z) (min y (max x z)) zs in grind arith

-- ---- the order

-- what stands at i, for what is put there
descending_set : (x : ℕ) (ts : List ℕ) (m : ℕ) (d : ℕ) → m < length ts → placed (slice_index_or ts m d) (descending (slice_set ts m x)) ≡ placed x (descending ts)
descending_set x [] m d h = absurd (not-suc-le-zero h)
descending_set x (t ∷ ts) zero d h = placed_comm t x (descending ts)
descending_set x (t ∷ ts) (suc m) d h =
    placed_comm (slice_index_or ts m d) t (descending (slice_set ts m x)) ∙ ap (placed t) (descending_set x ts m d (le_of_suc-le-suc h)) ∙ placed_comm t x (descending ts)

-- exchanged, at any default
both : List ℕ → ℕ → ℕ → ℕ → List ℕ
both xs i j d = slice_set (slice_set xs i (slice_index_or xs j d)) j (slice_index_or xs i d)

descending_both : (xs : List ℕ) (i j d : ℕ) → i < length xs → j < length xs → descending (both xs i j d) ≡ descending xs
unfolding both
descending_both [] i j d h k = refl
descending_both (x ∷ xs) zero zero d h k = refl
descending_both (x ∷ xs) zero (suc j) d h k = descending_set x xs j d (le_of_suc-le-suc k)
descending_both (x ∷ xs) (suc i) zero d h k = descending_set x xs i d (le_of_suc-le-suc h)
descending_both (x ∷ xs) (suc i) (suc j) d h k = ap (placed x) (descending_both xs i j d (le_of_suc-le-suc h) (le_of_suc-le-suc k))

descending_exchanged : (xs : List ℕ) (i j : ℕ) → i < length xs → j < length xs → descending (swap xs i j) ≡ descending xs
unfolding both
descending_exchanged [] i j h k = refl
descending_exchanged (x ∷ xs) i j h k = descending_both (x ∷ xs) i j x h k

pub descending_shuffled : (xs ys : List ℕ) → IsPermutation xs ys → descending ys ≡ descending xs
descending_shuffled xs ys s =
    IsPermutation-keeps xs (λ l. descending l ≡ descending xs) refl (λ l i j h k e. descending_exchanged l i j h k ∙ e) ys s

-- ---- the sum

sum_placed : (x : ℕ) (ys : List ℕ) → sum (placed x ys) ≡ x + sum ys
sum_placed x [] = omega arith
sum_placed x (y ∷ ys) =
    omega (arith, sum_by-cons (λ n. n) (max x y) (placed (min x y) ys), sum_placed (min x y) ys, sum_by-cons (λ n. n) y ys)

pub sum_descending : (xs : List ℕ) → sum (descending xs) ≡ sum xs
sum_descending [] = refl
sum_descending (x ∷ xs) = omega (arith, sum_placed x (descending xs), sum_descending xs, sum_by-cons (λ n. n) x xs)

pub n_largest_le : (n : ℕ) (xs : List ℕ) → n_largest n xs ≤ sum xs
n_largest_le n xs = omega (arith, sum_by-take-le (λ x. x) (descending xs) n, sum_descending xs)

pub sum_one : (d : List ℕ) → sum (take 1 d) ≡ slice_index d 0
sum_one [] = refl
sum_one (x ∷ d) = omega arith
