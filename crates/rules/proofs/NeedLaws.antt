-- The two largest are part of the sum, and what a quotient rounded up is at least.
use Rattle.std.specs.Prelude.{ℕ, ◌+◌, ◌*◌, ◌<◌, ◌≤◌, List, sum}
use Rattle.std.proofs.Common.{arith, mul_comm}
use Rattle.std.proofs.lemmas.Grind.{div_ceil_times}
use Rattle.std.proofs.Math.Nat.{lt_of_mul-lt-mul_right}
use Rattle.std.specs.Int.{div_ceil}
use Rattle.rules.specs.Largest.{descending, nth_largest}
use Rattle.rules.specs.Descending.{n_largest_le}
use Rattle.rules.proofs.Descending.{sum_two}

pub two_largest_le : (xs : List ℕ) → nth_largest 0 xs + nth_largest 1 xs ≤ sum xs
two_largest_le xs = omega (arith, sum_two (descending xs), n_largest_le 2 xs)

pub le_div_ceil : (a b m : ℕ) → 0 < b → b * m < a → m ≤ div_ceil a b
le_div_ceil a b m pos h =
    let below : m < div_ceil a b = lt_of_mul-lt-mul_right b (omega (arith, (div_ceil_times a b pos).0, mul_comm m b)) in
    omega arith
