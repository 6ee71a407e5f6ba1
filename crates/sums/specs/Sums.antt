-- Sums and counts over the numbers below n, and over a list of places.
use Rattle.std.specs.Prelude.{◌≡◌, ℕ, zero, suc, ◌+◌, ◌<◌, Bool, false, cond, ◌||◌, List, [], ◌∷◌, ◌==◌}

-- f 0 + f 1 + .. + f (n - 1)
abbrev pub sum_below : ℕ → (ℕ → ℕ) → ℕ
sum_below zero f = 0
sum_below (suc n) f = sum_below n f + f n

-- how many of the numbers below n pass the test
abbrev pub count_below : ℕ → (ℕ → Bool) → ℕ
count_below n test = sum_below n (λ k. cond (test k) 1 0)

-- whether c is one of the numbers
abbrev pub among : ℕ → List ℕ → Bool
among c [] = false
among c (a ∷ bs) = c == a || among c bs

-- how many of the places pass the test
abbrev pub passing : (ℕ → Bool) → List ℕ → ℕ
passing test [] = 0
passing test (a ∷ bs) = cond (test a) 1 0 + passing test bs

-- no place stands twice
abbrev pub Apart : List ℕ → Type 0
Apart [] = Unit {0}
Apart (a ∷ bs) = (among a bs ≡ false) × Apart bs

-- every place is below n
abbrev pub Within : ℕ → List ℕ → Type 0
Within n [] = Unit {0}
Within n (a ∷ bs) = (a < n) × Within n bs
