-- The two laws, of both needs.
use Rattle.std.specs.Prelude.{◌≡◌, ℕ, ◌+◌, ◌-◌, ◌*◌, ◌<◌, ◌≤◌, List, sum}
use Rattle.std.proofs.Common.{arith, mul-le-mul_left, mul-le-mul_right, add-mul}
use Rattle.std.specs.List.Sorted.{IsPermutation}
use Rattle.std.proofs.lemmas.List.Sorted.{sum_by-IsPermutation}
use Rattle.std.proofs.lemmas.Bool.Decides.{nat_tests}
use Rattle.std.proofs.lemmas.Grind.{div_ceil_times}
use Rattle.std.proofs.Math.Nat.{lt_of_mul-lt-mul_right}
use Rattle.std.specs.Int.{div_ceil}
use Rattle.rules.specs.Largest.{descending, nth_largest, n_largest}
use Rattle.rules.specs.Needs.{remainder, p_need, nk_need}
use Rattle.rules.specs.Descending.{descending_shuffled, n_largest_le, sum_one}

pub largest_le : (xs : List ℕ) → nth_largest 0 xs ≤ sum xs
largest_le xs = omega (arith, sum_one (descending xs), n_largest_le 1 xs)

-- a quotient rounded up is at most m where the dividend is at most m times the divisor
pub div_ceil_le : (a b m : ℕ) → 0 < b → a ≤ m * b → div_ceil a b ≤ m
div_ceil_le a b m pos h =
    let below : div_ceil a b < m + 1 = lt_of_mul-lt-mul_right b (omega (arith, (div_ceil_times a b pos).1, add-mul m 1 b)) in
    omega arith

pub p_bound : (p : ℕ) (xs : List ℕ) → p ≤ 100 → p_need p xs ≤ sum xs
p_bound p xs h =
    let part : p * nth_largest 0 xs ≤ 100 * nth_largest 0 xs = mul-le-mul_right (nth_largest 0 xs) h in
    grind (arith, nat_tests, div_ceil_le (p * nth_largest 0 xs - 100 * remainder xs) 100 (nth_largest 0 xs), largest_le xs)

pub nk_bound : (n k : ℕ) (xs : List ℕ) → 50 ≤ k → nk_need n k xs ≤ sum xs
nk_bound n k xs h =
    let twice : 2 * n_largest n xs * 50 ≤ 2 * n_largest n xs * k = mul-le-mul_left (2 * n_largest n xs) h in
    grind (arith, nat_tests, div_ceil_le (100 * n_largest n xs) k (2 * n_largest n xs), n_largest_le n xs)

pub p_order : (p : ℕ) (xs ys : List ℕ) → IsPermutation xs ys → p_need p ys ≡ p_need p xs
p_order p xs ys s =
    let e = descending_shuffled xs ys s in
    let t : sum ys ≡ sum xs = sum_by-IsPermutation (λ x. x) xs ys s in
    cc

pub nk_order : (n k : ℕ) (xs ys : List ℕ) → IsPermutation xs ys → nk_need n k ys ≡ nk_need n k xs
nk_order n k xs ys s =
    let e = descending_shuffled xs ys s in
    let t : sum ys ≡ sum xs = sum_by-IsPermutation (λ x. x) xs ys s in
    cc
