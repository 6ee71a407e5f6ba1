-- What the p-percent rule and the (n,k) rule need of a list of amounts.
use Rattle.std.specs.Prelude.{ℕ, ◌-◌, ◌*◌, Bool, cond, ◌&&◌, List, sum, nat_le, nat_lt}
use Rattle.std.specs.Int.{div_ceil}
use Rattle.rules.specs.Largest.{nth_largest, n_largest}

-- all but the two largest
abbrev pub remainder : List ℕ → ℕ
remainder xs = sum xs - nth_largest 0 xs - nth_largest 1 xs

-- the second largest could tell the largest to less than p percent
abbrev pub p_sensitive : ℕ → List ℕ → Bool
p_sensitive p xs = nat_lt (100 * remainder xs) (p * nth_largest 0 xs)

abbrev pub p_need : ℕ → List ℕ → ℕ
p_need p xs = cond (p_sensitive p xs) (div_ceil (p * nth_largest 0 xs - 100 * remainder xs) 100) 0

-- the n largest have more than k percent of the sum
abbrev pub nk_sensitive : ℕ → ℕ → List ℕ → Bool
nk_sensitive n k xs = nat_lt (k * sum xs) (100 * n_largest n xs)

abbrev pub nk_need : ℕ → ℕ → List ℕ → ℕ
nk_need n k xs = cond (nk_sensitive n k xs) (div_ceil (100 * n_largest n xs) k - sum xs) 0

-- P is from 1 to 100; N from 1 to 3, and K from 50 to 99
abbrev pub p_range : ℕ → Bool
p_range p = nat_le 1 p && nat_le p 100

abbrev pub nk_range : ℕ → ℕ → Bool
nk_range n k = (nat_le 1 n && nat_le n 3) && (nat_le 50 k && nat_le k 99)
