-- Contributions without a fault fit into a deposit.
use Rattle.std.proofs.Common.{◌≡◌, ℕ, zero, suc, ◌+◌, ◌<◌, ◌≤◌, List, [], ◌∷◌, length, get_or, None, arith}
use Rattle.std.proofs.lemmas.Bool.Decides.{nat_tests}
use Rattle.layouts.specs.declared.memory.Contribution.{Contribution}
use Rattle.composing.specs.Composed.{fault_from, fault_of}

-- what stands past the end of a list
abbrev pub blank : Contribution
blank = record { leaf = 0; company = 0; amount = 0 }

pub record Fits (cells : ℕ) (x : Contribution) : Type 0 where
  pub leaf : x.leaf < cells
  pub amount : x.amount ≤ 4294967295

module _ (cells n : ℕ) (x : Contribution) (xs : List Contribution) (e : fault_from cells n (x ∷ xs) ≡ None) where
  first_fits : Fits cells x
  first_fits = record { leaf = grind (arith, nat_tests); amount = grind (arith, nat_tests) }

  others_fit : fault_from cells (n + 1) xs ≡ None
  others_fit = grind (arith, nat_tests)

fits_from : (cells n : ℕ) (xs : List Contribution) → fault_from cells n xs ≡ None → (k : ℕ) → k < length xs → Fits cells (get_or xs k blank)
fits_from cells n [] e k h = absurd (omega arith)
fits_from cells n (x ∷ xs) e zero h = first_fits cells n x xs e
fits_from cells n (x ∷ xs) e (suc k) h = fits_from cells (n + 1) xs (others_fit cells n x xs e) k (omega arith)

module _ (cells : ℕ) (xs : List Contribution) (none : fault_of cells xs ≡ None) where
  none_from : fault_from cells 2 xs ≡ None
  none_from = grind (arith, nat_tests)

  pub each_fits : (k : ℕ) → k < length xs → Fits cells (get_or xs k blank)
  each_fits = fits_from cells 2 xs none_from
