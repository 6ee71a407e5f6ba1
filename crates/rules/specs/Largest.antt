-- A list's amounts from the largest down, and the sum of the n largest.
use Rattle.std.specs.Prelude.{ℕ, ◌+◌, ◌≤◌, min, max, List, [], ◌∷◌, take, sum, slice_index}
use Rattle.std.specs.List.Sorted.{IsPermutation}

-- x put into a list that descends: at each place the larger stays, and the smaller goes on
abbrev pub placed : ℕ → List ℕ → List ℕ
placed x [] = x ∷ []
placed x (y ∷ ys) = max x y ∷ placed (min x y) ys

abbrev pub descending : List ℕ → List ℕ
descending [] = []
descending (x ∷ xs) = placed x (descending xs)

-- the largest is at place 0, the second largest at place 1; 0 where there is none
abbrev pub nth_largest : ℕ → List ℕ → ℕ
nth_largest i xs = slice_index (descending xs) i

-- the sum of the n largest, or of all where there are fewer
abbrev pub n_largest : ℕ → List ℕ → ℕ
n_largest n xs = sum (take n (descending xs))

-- `descending` is the list in descending order: the same amounts, and none above the one before it
abbrev pub Descends : Type 0
Descends = (xs : List ℕ) → IsPermutation xs (descending xs) × ((i : ℕ) → nth_largest (i + 1) xs ≤ nth_largest i xs)

-- the two largest are part of the sum, so that what is left of it after them never falls short
abbrev pub TwoLargestWithin : Type 0
TwoLargestWithin = (xs : List ℕ) → nth_largest 0 xs + nth_largest 1 xs ≤ sum xs
