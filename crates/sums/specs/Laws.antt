-- The two laws that everything above leans on: two sums may be exchanged, and a count over some places is made there.
use Rattle.std.specs.Prelude.{◌≡◌, ℕ, Bool, ◌&&◌, List}
use Rattle.sums.specs.Sums.{sum_below, count_below, among, passing, Apart, Within}

-- summing the rows of a table and summing its columns come to the same
abbrev pub Exchange : Type 0
Exchange = (m n : ℕ) (f : ℕ → ℕ → ℕ) → sum_below m (λ r. sum_below n (λ c. f r c)) ≡ sum_below n (λ c. sum_below m (λ r. f r c))

-- of the numbers below n, those that are among the places and pass the test are as many as the places that pass it
abbrev pub CountAmong : Type 0
CountAmong = (n : ℕ) (test : ℕ → Bool) (places : List ℕ) → Apart places → Within n places → count_below n (λ c. among c places && test c) ≡ passing test places
