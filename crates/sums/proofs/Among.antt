-- Whether a number is among the places, as the library asks it of a slice.
use Rattle.std.proofs.Common.{◌≡◌, ℕ, List, [], ◌∷◌, nat_eq, refl}
use Rattle.std.proofs.Common.{arith}
use Rattle.std.proofs.lemmas.Bool.Decides.{nat_tests}
use Rattle.std.specs.List.{list_any}
use Rattle.sums.specs.Sums.{among}

pub any_among : (c : ℕ) (xs : List ℕ) → list_any (λ y. nat_eq y c) xs ≡ among c xs
any_among c [] = refl
any_among c (x ∷ xs) = let turned : nat_eq x c ≡ nat_eq c x = grind (arith, nat_tests) in rw (turned, any_among c xs)
