-- One amount more, told last; the first three places of what it makes; and the sum of the first two, or three.
use Rattle.std.proofs.Common.{◌≡◌, ℕ, ◌+◌, min, max, List, [], ◌∷◌, ◌++◌, take, refl, sym, arith}
use Rattle.std.specs.Prelude.{sum, slice_index}
use Rattle.std.proofs.lemmas.List.Sorted.{IsPermutation-to_front}
use Rattle.rules.specs.Largest.{placed, descending}
use Rattle.rules.specs.Descending.{descending_shuffled}

pub descending_push : (xs : List ℕ) (a : ℕ) → descending (xs ++ a ∷ []) ≡ placed a (descending xs)
descending_push xs a = sym (descending_shuffled (xs ++ a ∷ []) (a ∷ xs) (IsPermutation-to_front xs a))

-- what one amount more puts at 0, 1 and 2
module _ (a : ℕ) where
  pub placed_first : (d : List ℕ) → slice_index (placed a d) 0 ≡ max a (slice_index d 0)
  placed_first [] = omega arith
  placed_first (x ∷ d) = refl

  pub placed_second : (d : List ℕ) → slice_index (placed a d) 1 ≡ max (min a (slice_index d 0)) (slice_index d 1)
  placed_second [] = omega arith
  placed_second (x ∷ []) = omega arith
  placed_second (x ∷ y ∷ d) = refl

  pub placed_third : (d : List ℕ) → slice_index (placed a d) 2 ≡ max (min (min a (slice_index d 0)) (slice_index d 1)) (slice_index d 2)
  placed_third [] = omega arith
  placed_third (x ∷ []) = omega arith
  placed_third (x ∷ y ∷ []) = omega arith
  placed_third (x ∷ y ∷ z ∷ d) = refl

pub sum_two : (d : List ℕ) → sum (take 2 d) ≡ slice_index d 0 + slice_index d 1
sum_two [] = refl
sum_two (x ∷ []) = omega arith
sum_two (x ∷ y ∷ d) = omega arith

pub sum_three : (d : List ℕ) → sum (take 3 d) ≡ slice_index d 0 + slice_index d 1 + slice_index d 2
sum_three [] = refl
sum_three (x ∷ []) = omega arith
sum_three (x ∷ y ∷ []) = omega arith
sum_three (x ∷ y ∷ z ∷ d) = omega arith
