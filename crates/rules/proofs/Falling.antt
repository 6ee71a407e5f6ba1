-- `descending` has the amounts of the list, from the largest down.
use Rattle.std.proofs.Common.{◌≡◌, ℕ, zero, suc, ◌<◌, ◌≤◌, min, max, List, [], ◌∷◌, get_or, refl, ⊎_elim, add-one, arith}
use Rattle.std.specs.List.Sorted.{IsPermutation}
use Rattle.std.proofs.lemmas.List.Sorted.{IsPermutation-refl, IsPermutation-cons, IsPermutation-swap, IsPermutation-trans}
use Rattle.std.proofs.lemmas.Bool.{cases_lt}
use Rattle.rules.specs.Largest.{placed, descending, Descends}
use Rattle.rules.proofs.Descending.{placed_first}

-- the first two in their order, or exchanged
first_two : (x y : ℕ) (ys : List ℕ) → IsPermutation (x ∷ y ∷ ys) (max x y ∷ min x y ∷ ys)
first_two x y ys =
    ⊎_elim
    (λ (h : x < y).
    let a : max x y ≡ y = omega arith in
    let b : min x y ≡ x = omega arith in
    rw (a, b) (IsPermutation-swap (x ∷ y ∷ ys) (y ∷ x ∷ ys) 0 1 (omega arith) (omega arith) refl))
    (λ (h : y ≤ x).
    let a : max x y ≡ x = omega arith in
    let b : min x y ≡ y = omega arith in
    rw (a, b) (IsPermutation-refl (x ∷ y ∷ ys)))
    (cases_lt x y)

shuffled_placed : (x : ℕ) (ys : List ℕ) → IsPermutation (x ∷ ys) (placed x ys)
shuffled_placed x [] = IsPermutation-refl (x ∷ [])
shuffled_placed x (y ∷ ys) =
    IsPermutation-trans (x ∷ y ∷ ys) (max x y ∷ min x y ∷ ys) (placed x (y ∷ ys)) (first_two x y ys)
    (IsPermutation-cons (max x y) (min x y ∷ ys) (placed (min x y) ys) (shuffled_placed (min x y) ys))

pub shuffled_descending : (xs : List ℕ) → IsPermutation xs (descending xs)
shuffled_descending [] = IsPermutation-refl []
shuffled_descending (x ∷ xs) =
    IsPermutation-trans (x ∷ xs) (x ∷ descending xs) (descending (x ∷ xs)) (IsPermutation-cons x xs (descending xs) (shuffled_descending xs)) (shuffled_placed x (descending xs))

Falls : List ℕ → Type 0
Falls d = (i : ℕ) → get_or d (suc i) 0 ≤ get_or d i 0

falls_placed : (x : ℕ) (d : List ℕ) → Falls d → Falls (placed x d)
unfolding Falls
falls_placed x [] f zero = omega arith
falls_placed x [] f (suc i) = omega arith
falls_placed x (y ∷ d) f zero = omega (arith, placed_first (min x y) d, f zero)
falls_placed x (y ∷ d) f (suc i) = falls_placed (min x y) d (λ j. f (suc j)) i

falls_descending : (xs : List ℕ) → Falls (descending xs)
unfolding Falls
falls_descending [] i = omega arith
falls_descending (x ∷ xs) i = falls_placed x (descending xs) (falls_descending xs) i

pub descends : Descends
unfolding Falls
descends xs = (shuffled_descending xs, λ i. rw add-one (falls_descending xs i))
