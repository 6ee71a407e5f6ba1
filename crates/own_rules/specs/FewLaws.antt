-- The laws of the rule of few contributors.
use Rattle.std.specs.Prelude.{◌≡◌, ℕ, ◌≤◌, List, length, sum, IsPermutation}
use Rattle.std.proofs.Common.{arith}
use Rattle.std.proofs.lemmas.List.Sorted.{sum_by-IsPermutation, length_permutation}
use Rattle.own_rules.specs.Few.{few_need}

pub few_bound : (xs : List ℕ) → few_need xs ≤ sum xs
few_bound xs = grind arith

pub few_order : (xs ys : List ℕ) → IsPermutation xs ys → few_need ys ≡ few_need xs
few_order xs ys s =
    let t : sum ys ≡ sum xs = sum_by-IsPermutation (λ x. x) xs ys s in
    let n : length ys ≡ length xs = length_permutation xs ys s in
    cc
