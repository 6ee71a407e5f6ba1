-- Where no amount is refused, all are accepted.
use Rattle.std.proofs.Common.{◌≡◌, ℕ, suc, List, [], ◌∷◌, Ok, refl, arith}
use Rattle.std.proofs.lemmas.Bool.Decides.{nat_tests}
use Rattle.rules.specs.Telling.{told_all, accepted}

pub accepted_all : (n : ℕ) (xs : List ℕ) → told_all n xs ≡ Ok tt → accepted n xs ≡ xs
accepted_all n [] e = refl
accepted_all n (a ∷ rest) e = let more = accepted_all (suc n) rest in grind (arith, nat_tests)
